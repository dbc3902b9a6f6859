-- `multiply::shift_up` meets its contract: i words are shifted, the others stand as they were, and `low` is the word before. Assumes nothing.
use mathlib.Core.Path.{◌≡◌}
use mathlib.Core.List.{◌∷◌}
use Prim.Native.Nat.{ℕ, ◌+◌, ◌*◌, ◌≤◌, ◌<◌}
use lib.ListN.{length, get_or}
use Rattle.hashing.specs.Lists.{bit_at, bits}
use Rattle.ring.specs.inner.Wide.{shifted}
use Rattle.ring.proofs.multiply.shift_up.Given as goal

abbrev pub invariant-loop-i : goal.invariant-loop-i
invariant-loop-i l =
    (l.i ≤ l.len) × (length l.x ≡ length l.initial.x) × (l.low ≡ get_or (0 ∷ l.initial.x) l.i 0) × ((j : ℕ) → l.i ≤ j → get_or l.x j 0 ≡ get_or l.initial.x j 0)
    × ((j : ℕ) → j < l.i → (e : ℕ) → e < 64 → bit_at (get_or l.x j 0) e ≡ shifted 5 (bits 64 l.initial.x) (64 * j + e))
