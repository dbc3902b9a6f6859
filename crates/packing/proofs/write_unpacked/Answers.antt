-- `write_unpacked` lays the positions out at the front and copies the tail behind them.
use mathlib.Core.Path.{◌≡◌, ap₂, ◌∙◌}
use mathlib.Core.List.{◌++◌}
use Prim.Native.Nat.{◌*◌}
use native.Mathlib.Omega.{arith}
use Rattle.ring.specs.Levels.{level_of}
use Rattle.ring.proofs.Levels.{sizes, width}
use Rattle.packing.specs.Packing.{unpacked, packed_bits, row_part}
use Rattle.packing.proofs.Judged.{unpack_clear}
use Rattle.packing.proofs.Keys.{row_small}
use Rattle.packing.proofs.Writing.{two_bytes_are}
use Rattle.packing.proofs.write_unpacked.Goals as goal

pub split_at-requires : goal.split_at-requires
split_at-requires c = omega (arith, (unpack_clear c.requires).packed_size)

pub overflow_mul-n : goal.overflow_mul-n
overflow_mul-n c = omega (arith, sizes c.args.level, c.positions-n.ensures)

pub split_at_mut-positions-requires : goal.split_at_mut-positions-requires
split_at_mut-positions-requires c = omega (arith, (unpack_clear c.requires).room_is, c.positions-n.ensures)

pub lay-requires : goal.lay-requires
lay-requires c =
    let bits : c.positions-n.result * c.position_bits.result ≡ packed_bits (level_of c.args.level) =
    ap₂ ◌*◌ c.positions-n.ensures c.position_bits.ensures in
    let few = sizes c.args.level in
    let small = row_small c.args.level in
    let row = c.split_at.ensures.back_len in
    let size = (unpack_clear c.requires).packed_size in
    let front = c.split_at_mut-positions.ensures.front_len in
    let n = c.positions-n.ensures in
    let w = c.position_bits.ensures in
    record { fact_1 = (omega arith, omega arith, omega arith, omega arith); fact_2 = omega arith }

pub copy-requires : goal.copy-requires
copy-requires c =
    omega (arith, c.split_at_mut-positions.ensures.back_len, c.split_at.ensures.front_len, (unpack_clear c.requires).room_is, c.positions-n.ensures)

pub returns : goal.returns
unfolding unpacked
returns c =
    let n = c.positions-n.ensures in
    let row = rw (n, c.position_bits.ensures, c.split_at.ensures.back) at c.lay.ensures in
    ap₂ ◌++◌
    (two_bytes_are (level_of c.args.level) _ (row_part c.args.packed.now) (width c.args.level).most (rw n at c.split_at_mut-positions.ensures.front_len) row)
    (c.copy.ensures ∙ c.split_at.ensures.front)
