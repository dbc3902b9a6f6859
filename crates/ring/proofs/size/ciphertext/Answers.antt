-- `ciphertext` is c0 and c1.
use native.Mathlib.Omega.{arith}
use Rattle.ring.proofs.Levels.{sizes}
use Rattle.ring.proofs.size.ciphertext.Goals as goal

pub overflow_add-result : goal.overflow_add-result
overflow_add-result c = omega (arith, sizes c.args.level)
