-- `moved_on` moves the positions on: before turn i the first i are there.
use mathlib.Core.Path.{◌≡◌}
use mathlib.Core.List.{map}
use Prim.Native.Nat.{◌≤◌}
use lib.ListN.{length, take}
use Rattle.ring.specs.inner.Sizes.{most_d}
use Rattle.service.proofs.Positions.{on}
use Rattle.service.proofs.rotation.moved_on.Given as goal

abbrev pub invariant-loop-i : goal.invariant-loop-i
invariant-loop-i l = (l.i ≤ length l.h) × (length l.list ≡ most_d) × (take l.i l.list ≡ map (on l.r l.k) (take l.i l.h))
