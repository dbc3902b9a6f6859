-- `starts`: before turn i the first i are written.
use mathlib.Core.Path.{◌≡◌}
use Prim.Native.Nat.{ℕ, ◌≤◌, ◌<◌}
use lib.ListN.{length, get_or}
use Rattle.ring.specs.inner.Sizes.{most_starts, empty_window}
use Rattle.ring.proofs.sparse.starts.Given as goal

abbrev pub invariant-loop-i : goal.invariant-loop-i
invariant-loop-i g l =
    (length l.from ≡ most_starts) × ((j : ℕ) → j < l.i → goal.F-post g l.rule j (get_or l.from j 0))
    × ((j : ℕ) → l.i ≤ j → j < most_starts → get_or l.from j 0 ≡ empty_window)
