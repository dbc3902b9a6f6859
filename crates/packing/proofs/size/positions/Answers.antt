-- `positions` counts both halves.
use native.Mathlib.Omega.{arith}
use Rattle.ring.proofs.Levels.{sizes}
use Rattle.packing.proofs.size.positions.Goals as goal

pub overflow_add-result : goal.overflow_add-result
overflow_add-result c = omega (arith, sizes c.args.level)
