-- `words::sum` meets its contract: i words are done. Assumes nothing.
use Prim.Native.Nat.{◌≤◌}
use Rattle.hashing.specs.Lists.{bits}
use Rattle.ring.specs.Polynomials.{add}
use Rattle.ring.proofs.words.Laws.{Done}
use Rattle.ring.proofs.words.sum.Given as goal

abbrev pub invariant-loop-i : goal.invariant-loop-i
invariant-loop-i l = (l.i ≤ l.n) × Done (add (bits 64 l.a) (bits 64 l.b)) l.i l.c
