-- What the code writes, in the words of the definitions. Assumes nothing.
use mathlib.Core.Path.{◌≡◌}
use mathlib.Core.List.{List}
use Prim.Native.Nat.{ℕ, ◌*◌, ◌≤◌}
use native.Mathlib.Nat.{lt_of_lt_of_le}
use native.Mathlib.Omega.{arith}
use lib.Pow.{pow_mono}
use Rattle.hashing.specs.Lists.{bits}
use Rattle.ring.specs.Bytes.{list_of, byte_length, bytes_of}
use Rattle.ring.specs.Levels.{Level, position_bits}
use Rattle.ring.proofs.Layouts.{Below}
use Rattle.exchange.specs.Scheme.{two_bytes}
use Rattle.packing.specs.Packing.{row_of, in_row, positions_in, positions, packed_bits}
use Rattle.packing.proofs.Keys.{positions-both}
use Rattle.packing.proofs.Rows.{in_row-length, in_row_below}
use Rattle.packing.proofs.TwoBytes.{numbers-row, two_bytes-row}

module _ (l : Level) (size : ℕ) {out : List ℕ} where
  pub packed_row_is : (key : List ℕ) → Below 8 key → size ≡ byte_length (packed_bits l)
      → out ≡ list_of 8 size (bits (position_bits l.r) (in_row 16 (positions_in l) key))
      → out ≡ row_of (position_bits l.r) (positions_in l) (positions l key)
  unfolding row_of bytes_of
  packed_row_is key small long is = rw (positions-both l key, numbers-row (positions_in l) key small, ← long) is

  pub two_bytes_are : (row : List ℕ) → position_bits l.r ≤ 16 → size ≡ 2 * positions_in l
      → out ≡ list_of 8 size (bits 16 (in_row (position_bits l.r) (positions_in l) row))
      → out ≡ two_bytes (in_row (position_bits l.r) (positions_in l) row)
  unfolding row_of bytes_of
  two_bytes_are row narrow long is =
      let list = in_row (position_bits l.r) (positions_in l) row in
      let small : Below 16 list = λ i.
      lt_of_lt_of_le (in_row_below (position_bits l.r) (positions_in l) (omega arith) row i) (pow_mono {i = position_bits l.r} {j = 16} narrow) in
      let bytes : size ≡ byte_length (positions_in l * 16) = omega arith in
      rw (two_bytes-row (positions_in l) list (in_row-length (position_bits l.r) (positions_in l) (omega arith) row) small, ← bytes) is
