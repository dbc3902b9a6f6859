-- `words::load` meets its contract: i words are done. Assumes nothing.
use Prim.Native.Nat.{◌≤◌}
use Rattle.hashing.specs.Lists.{bits}
use Rattle.ring.proofs.words.Laws.{Done}
use Rattle.ring.proofs.words.load.Given as goal

abbrev pub invariant-loop-i : goal.invariant-loop-i
invariant-loop-i l = (l.i ≤ l.n) × Done (bits 8 l.bytes) l.i l.a
