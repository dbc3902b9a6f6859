-- How the permutation's code holds a state between its rounds: six lanes inverted. No public promise cites this file. Assumes nothing.
use Rattle.std.specs.Prelude.{Bool, true, false, ◌||◌, List, ℕ, ◌-◌, ◌^◌, ◌<◌, eqb, get_or}
use Rattle.std.specs.Int.Bits.{bit_and, bit_xor}
use Rattle.hashing.specs.Keccak.{complement}
use Rattle.hashing.specs.Lists.{tab}

-- a lane, inverted or as it is
unfoldable pub turned : Bool → ℕ → ℕ
turned true w = bit_xor w (2 ^ 64 - 1)
turned false w = w

unfoldable pub inverted : ℕ → Bool
inverted p = eqb p 1 || eqb p 2 || eqb p 8 || eqb p 12 || eqb p 17 || eqb p 20

unfoldable pub exchanged : List ℕ → List ℕ
exchanged A = tab 25 (λ p. turned (inverted p) (get_or A p 0))

-- χ on one lane
unfoldable pub chosen : ℕ → ℕ → ℕ → ℕ
chosen b c d = bit_xor b (bit_and (complement c) d)

abbrev pub Lanes : List ℕ → Type 0
Lanes A = (p : ℕ) → get_or A p 0 < 2 ^ 64
