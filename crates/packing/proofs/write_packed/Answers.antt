-- `write_packed` copies the tail to the front and lays the row out behind it.
use mathlib.Core.Path.{◌≡◌, sym, ap, ap₂, ◌∙◌}
use mathlib.Core.List.{◌++◌}
use Prim.Native.Nat.{ℕ, ◌*◌, ◌≤◌}
use native.Mathlib.Omega.{arith}
use lib.ListN.{length, drop, length-drop}
use Rattle.std.proofs.lemmas.List.{take_rest}
use Rattle.ring.specs.Bytes.{byte_length}
use Rattle.ring.specs.Levels.{level_of}
use Rattle.ring.proofs.Levels.{sizes}
use Rattle.exchange.specs.decoder.PrivateKey.{tail}
use Rattle.packing.specs.Packing.{packed, packed_bits}
use Rattle.packing.proofs.Judged.{pack_clear}
use Rattle.packing.proofs.Keys.{row_small}
use Rattle.packing.proofs.Writing.{packed_row_is}
use Rattle.packing.proofs.write_packed.Goals as goal
use Rattle.packing.proofs.write_packed.Goals.{After-positions-n, After-split_at_mut-tail}

pub split_at_mut-tail-requires : goal.split_at_mut-tail-requires
split_at_mut-tail-requires c = omega (arith, (pack_clear c.requires).room_is)

pub overflow_mul-n : goal.overflow_mul-n
overflow_mul-n c = omega (arith, sizes c.args.level, c.positions-n.ensures)

within : (c : After-positions-n) → 2 * c.positions-n.result ≤ length c.args.private_key.now
within c = omega (arith, (pack_clear c.requires).key_size, c.positions-n.ensures)

pub slice_bounds-copy-count : goal.slice_bounds-copy-count
slice_bounds-copy-count c = within (goal.at.slice_bounds-copy-count c).After-positions-n

pub slice_bounds-copy-start : goal.slice_bounds-copy-start
slice_bounds-copy-start c = within (goal.at.slice_bounds-copy-start c).After-positions-n

pub copy-requires : goal.copy-requires
copy-requires c =
    let n = c.positions-n in
    let key = c.args.private_key.now in
    c.split_at_mut-tail.ensures.front_len
    ∙ sym (ap length (take_rest key (2 * n.result)) ∙ length-drop (2 * n.result) key ∙ omega (arith, (pack_clear c.requires).key_size, n.ensures))

-- the row has its bytes
room : (c : After-split_at_mut-tail) → length c.split_at_mut-tail.result.1.now ≡ byte_length (packed_bits (level_of c.args.level))
room c = omega (arith, c.split_at_mut-tail.ensures.back_len, (pack_clear c.requires).room_is)

pub lay-requires : goal.lay-requires
lay-requires c =
    let few = sizes c.args.level in
    let size = (pack_clear c.requires).key_size in
    let row = room (goal.at.lay-requires c).After-split_at_mut-tail in
    let small = row_small c.args.level in
    let n = c.positions-n.ensures in
    let w = c.position_bits.ensures in
    record { fact_1 = (omega arith, omega arith, omega arith, omega arith); fact_2 = omega arith }

pub returns : goal.returns
unfolding packed tail
returns c =
    let key = c.args.private_key.now in
    let n = c.positions-n in
    let row = rw (n.ensures, c.position_bits.ensures) at c.lay.ensures in
    ap₂ ◌++◌
    (c.copy.ensures ∙ take_rest key (2 * n.result) ∙ ap (λ (k : ℕ). drop (2 * k) key) n.ensures)
    (packed_row_is (level_of c.args.level) _ key (λ i. (c.type_inv.private_key i).fits) (room (goal.at.returns c).After-split_at_mut-tail) row)
