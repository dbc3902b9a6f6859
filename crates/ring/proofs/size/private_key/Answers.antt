-- `private_key` is two halves of positions and the tail.
use native.Mathlib.Omega.{arith}
use Rattle.ring.proofs.Levels.{sizes}
use Rattle.ring.proofs.size.private_key.Goals as goal

pub overflow_add-result : goal.overflow_add-result
overflow_add-result c = omega (arith, sizes c.args.level)

pub overflow_mul-result : goal.overflow_mul-result
overflow_mul-result c = omega (arith, sizes c.args.level)

pub overflow_add-result-2 : goal.overflow_add-result-2
overflow_add-result-2 c = omega (arith, sizes c.args.level)
