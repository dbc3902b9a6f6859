-- `packed_key` is the tail and the row.
use native.Mathlib.Omega.{arith}
use Rattle.packing.proofs.Keys.{row_small}
use Rattle.packing.proofs.size.packed_key.Goals as goal

pub byte_length-requires : goal.byte_length-requires
byte_length-requires c = omega (arith, row_small c.args.level, c.packed_bits.ensures)
