-- `polynomial` rounds up to whole bytes.
use native.Mathlib.Omega.{arith}
use Rattle.ring.proofs.Levels.{sizes}
use Rattle.ring.proofs.size.polynomial.Goals as goal

pub overflow_add-result : goal.overflow_add-result
overflow_add-result c = omega (arith, sizes c.args.level)
