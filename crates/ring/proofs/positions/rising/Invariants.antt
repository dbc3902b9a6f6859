-- `rising`: before each turn the words gone through and the exponents listed are as many as the turns, and both have an end.
use mathlib.Core.Path.{◌≡◌}
use Prim.Native.Nat.{◌+◌, ◌/◌, ◌≤◌}
use lib.ListN.{length}
use Rattle.ring.specs.inner.Sizes.{words, most_d}
use Rattle.ring.proofs.positions.Laws.{Listing}
use Rattle.ring.proofs.positions.rising.Given as goal

abbrev pub invariant-loop-turn : goal.invariant-loop-turn
invariant-loop-turn l =
    (l.turn ≡ l.i + l.n) × (l.i ≤ l.r / 64) × (l.n ≤ l.count) × (length l.out ≡ most_d + 1) × (length l.left ≡ words) × Listing l.initial.left l.out l.left l.i l.n
