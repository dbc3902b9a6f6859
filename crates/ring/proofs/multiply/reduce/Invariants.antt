-- `multiply::reduce` meets its contract: i words are done, and those from there on are 0. Assumes nothing.
use Prim.Native.Nat.{◌+◌, ◌≤◌}
use Rattle.ring.proofs.words.Laws.{Done}
use Rattle.ring.proofs.multiply.Laws.{folded}
use Rattle.ring.proofs.multiply.reduce.Given as goal

abbrev pub invariant-loop-i : goal.invariant-loop-i
invariant-loop-i l = (l.i ≤ l.q + 1) × Done (folded l.x l.r) l.i l.y
