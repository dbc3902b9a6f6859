-- How the code holds a polynomial for loops over its bits. Assumes nothing.
use Rattle.std.specs.Prelude.{◌≡◌, List, Bool, ℕ, ◌+◌, ◌-◌, ◌%◌, ◌<◌, get_or}
use Rattle.hashing.specs.Lists.{bit_at}
use Rattle.ring.specs.Polynomials.{Poly, bit}

-- one byte to a bit, twice in a row: byte k is coefficient k mod r
abbrev pub Held : ℕ → Poly → List ℕ → Type 0
Held r a bytes = (k : ℕ) → k < r + r → get_or bytes k 0 ≡ bit (a (k % r))

-- a word that is filled at its low end, the highest bit first: those from e on are taken in
abbrev pub Taken : (ℕ → Bool) → ℕ → ℕ → Type 0
Taken f e w = (i : ℕ) → i < 64 - e → bit_at w i ≡ f (e + i)
