-- `packed_bits` is the length of a row.
use native.Mathlib.Omega.{arith}
use Rattle.packing.proofs.Keys.{row_small}
use Rattle.packing.proofs.size.packed_bits.Goals as goal

pub overflow_mul-result : goal.overflow_mul-result
overflow_mul-result c = rw (c.positions.ensures, c.position_bits.ensures) (omega (arith, row_small c.args.level))
