-- `multiply::multiples` meets its contract: rows 0 to 2 v - 1 are filled. Assumes nothing.
use Prim.Native.Nat.{◌*◌, ◌≤◌, ◌<◌}
use Rattle.hashing.specs.Lists.{bits}
use Rattle.ring.specs.inner.Wide.{Clear, Multiples}
use Rattle.ring.proofs.multiply.multiples.Given as goal

abbrev pub invariant-loop-v : goal.invariant-loop-v
invariant-loop-v l = (0 < l.v) × (l.v ≤ 16) × Clear l.n l.t × Multiples (bits 64 l.b) (2 * l.v) l.t
