-- `words::weight` meets its contract: i words are counted. Assumes nothing.
use mathlib.Core.Path.{◌≡◌}
use Prim.Native.Nat.{◌*◌, ◌≤◌}
use Rattle.hashing.specs.Lists.{bits}
use Rattle.ring.specs.Polynomials.{weight}
use Rattle.ring.proofs.words.weight.Given as goal

abbrev pub invariant-loop-i : goal.invariant-loop-i
invariant-loop-i l = (l.i ≤ l.n) × (l.ones ≤ 64 * l.i) × (l.ones ≡ weight (64 * l.i) (bits 64 l.a))
