-- `list` ends: each record begins after the one before it, and not past the end. There are no more lines than bytes.
use Rattle.std.proofs.Common.{length, ◌-◌, ◌≤◌}
use Rattle.listrecords.proofs.list.Given as goal

abbrev pub invariant-loop-at : goal.invariant-loop-at
invariant-loop-at g l = (l.at ≤ length l.bytes) × (l.lines ≤ l.at)

abbrev pub decreases-loop-at : goal.decreases-loop-at
decreases-loop-at g l = length l.bytes - l.at
