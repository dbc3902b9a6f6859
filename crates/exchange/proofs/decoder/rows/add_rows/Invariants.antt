-- `add_rows`: the bytes below i have the eight rows, the others do not yet.
use mathlib.Core.Path.{◌≡◌}
use mathlib.Core.Bool.{Bool}
use mathlib.Core.List.{List}
use Prim.Native.Nat.{ℕ, ◌+◌, ◌≤◌, ◌<◌}
use lib.ListN.{get_or}
use Rattle.hashing.specs.Lists.{bit_at}
use Rattle.ring.specs.Polynomials.{flip, parity}
use Rattle.exchange.proofs.decoder.rows.add_rows.Given as goal

-- bit e of byte j with the rows
abbrev pub summed : List ℕ → List ℕ → List ℕ → ℕ → ℕ → Bool
summed z f at j e = flip (bit_at (get_or z j 0) e) (parity 8 (λ m. bit_at (get_or f (get_or at m 0 + j) 0) e))

abbrev pub invariant-loop-i : goal.invariant-loop-i
invariant-loop-i l =
    (l.i ≤ l.n) × ((j : ℕ) → j < l.i → (e : ℕ) → e < 8 → bit_at (get_or l.z j 0) e ≡ summed l.initial.z l.f l.at j e)
    × ((j : ℕ) → l.i ≤ j → get_or l.z j 0 ≡ get_or l.initial.z j 0)
