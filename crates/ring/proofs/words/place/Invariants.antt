-- `words::place` meets its contract: i words are in place. Assumes nothing.
use mathlib.Core.Path.{◌≡◌}
use Prim.Native.Nat.{ℕ, ◌+◌, ◌≤◌, ◌<◌}
use lib.ListN.{length, get_or}
use Rattle.ring.specs.inner.Wide.{Outside}
use Rattle.ring.proofs.words.place.Given as goal

abbrev pub invariant-loop-i : goal.invariant-loop-i
invariant-loop-i l =
    (l.i ≤ length l.b) × (length l.t ≡ length l.initial.t) × Outside l.at l.i l.initial.t l.t × ((j : ℕ) → j < l.i → get_or l.t (l.at + j) 0 ≡ get_or l.b j 0)
