-- A private key and its packed form determine each other. Assumes nothing.
use mathlib.Core.Path.{◌≡◌, sym, ap, ap₂, ◌∙◌}
use mathlib.Core.Bool.{true, false}
use mathlib.Core.List.{List, [], ◌∷◌, ◌++◌}
use Prim.Native.Nat.{ℕ, zero, suc, ◌+◌, ◌*◌, ◌^◌, ◌≤◌}
use native.Mathlib.Nat.{mul-le-mul_left}
use native.Mathlib.Omega.{arith}
use borrow.Author.Tests.{ltb-true}
use lib.Dec.{leb, ltb}
use lib.ListN.{length, take, drop, length-append, length-drop, take-append-drop}
use lib.Pow.{pow_pos}
use lib.Seq.{length-take-le, take_at, drop_at, drop-drop}
use Rattle.hashing.specs.Lists.{tab}
use Rattle.hashing.proofs.Lists.{tab-append, tab_ext}
use Rattle.ring.specs.Bytes.{byte_length, pad_set, little_endian, numbers}
use Rattle.ring.specs.inner.Sizes.{most_d}
use Rattle.ring.specs.Levels.{Level, level_of, tail_bytes, position_bits, private_bytes}
use Rattle.ring.proofs.Bools.{both_true}
use Rattle.ring.proofs.Layouts.{Below, bytes_of-length}
use Rattle.ring.proofs.Levels.{sizes, width}
use Rattle.ring.proofs.little_endian.Laws.{numbers-length}
use Rattle.exchange.specs.Fits.{Bytes}
use Rattle.exchange.specs.Scheme.{two_bytes}
use Rattle.exchange.specs.decoder.PrivateKey.{positions0, positions1, tail, rising_from, good_key}
use Rattle.exchange.proofs.Making.{numbers_back, length-two_bytes, two_again}
use Rattle.exchange.proofs.Streams.{below_append, below_drop}
use Rattle.packing.specs.Packing.{row_of, in_row, positions_in, positions, packed_bits, packed_bytes, packed, row_part, unpacked, padded}
use Rattle.packing.proofs.Rows.{in_row-length, in_row_of, row_of_in, row_of_pad}

-- the positions of both halves are read one after another
pub positions-both : (l : Level) (key : List ℕ) → positions l key ≡ numbers 2 (positions_in l) key
unfolding positions positions0 positions1 numbers
positions-both l key =
    sym
    (tab-append l.d l.d (λ i. little_endian (take 2 (drop (2 * i) key)))
    ∙ ap (◌++◌ (tab l.d (λ i. little_endian (take 2 (drop (2 * i) key)))))
    (tab_ext l.d _ _
    (λ i below.
    let at : 2 * (l.d + i) ≡ 2 * l.d + 2 * i = omega arith in
    rw (at, drop-drop (2 * i) (2 * l.d) key))))

split : (l : Level) (key : List ℕ) → take (2 * positions_in l) key ++ tail l key ≡ key
unfolding tail
split l key = take-append-drop (2 * positions_in l) key

-- positions that rise below r have the bits of a position
rising_below : (w r least : ℕ) (list : List ℕ) → r ≤ 2 ^ w → rising_from r least list ≡ true → Below w list
unfolding rising_from
rising_below w r least [] room rises i = pow_pos w
rising_below w r least (p ∷ list) room rises zero =
    let below = ltb-true p r (both_true (ltb p r) _ (both_true (leb least p) _ rises).1).0 in omega arith
rising_below w r least (p ∷ list) room rises (suc i) =
    rising_below w r (suc p) list room (both_true (ltb p r) _ (both_true (leb least p) _ rises).1).1 i

-- a row is short: two bytes a position are enough
pub row_small : (level : ℕ) → packed_bits (level_of level) ≤ 16 * (most_d + most_d)
row_small level =
    let l = level_of level in
    let most : positions_in l * position_bits l.r ≤ positions_in l * 16 = mul-le-mul_left (positions_in l) (width level).most in
    omega (arith, sizes level)

module _ (l : Level) where
  positions-length : (key : List ℕ) → length (positions l key) ≡ positions_in l
  positions-length key = ap length (positions-both l key) ∙ numbers-length 2 (positions_in l) key

  tail-length : (key : List ℕ) → length key ≡ private_bytes l → length (tail l key) ≡ tail_bytes
  unfolding tail
  tail-length key long = length-drop (2 * positions_in l) key ∙ omega arith

  pub packed-length : (key : List ℕ) → length key ≡ private_bytes l → length (packed l key) ≡ packed_bytes l
  unfolding packed row_of
  packed-length key long =
      length-append (tail l key) _ ∙ ap₂ ◌+◌ (tail-length key long) (bytes_of-length (packed_bits l) _)

  packed-row : (key : List ℕ) → length key ≡ private_bytes l
      → row_part (packed l key) ≡ row_of (position_bits l.r) (positions_in l) (positions l key)
  unfolding packed
  packed-row key long = drop_at (tail l key) _ tail_bytes (tail-length key long)

  pub packed_pad : (key : List ℕ) → length key ≡ private_bytes l → padded l (packed l key) ≡ false
  packed_pad key long =
      ap (pad_set (packed_bits l)) (packed-row key long)
      ∙ row_of_pad (position_bits l.r) (positions_in l) (omega arith) (positions l key) (positions-length key)

  -- read after written
  good_below : l.r ≤ 2 ^ position_bits l.r → (key : List ℕ) → good_key l key ≡ true
      → Below (position_bits l.r) (positions l key)
  unfolding good_key positions
  good_below room key good =
      let rise = both_true _ _ good in
      below_append (position_bits l.r) (positions0 l key) (positions1 l key)
      (rising_below (position_bits l.r) l.r 0 (positions0 l key) room rise.0)
      (rising_below (position_bits l.r) l.r 0 (positions1 l key) room rise.1)

  pub unpacked-packed : l.r ≤ 2 ^ position_bits l.r → (key : List ℕ) → Bytes (private_bytes l) key → good_key l key ≡ true
      → unpacked l (packed l key) ≡ key
  unfolding unpacked packed
  unpacked-packed room key bytes good =
      let row = row_of (position_bits l.r) (positions_in l) (positions l key) in
      let size = bytes.size in
      let long = tail-length key size in
      rw (
        drop_at (tail l key) row tail_bytes long,
        take_at (tail l key) row tail_bytes long,
        in_row_of (position_bits l.r) (positions_in l) (omega arith) (positions l key) (positions-length key) (good_below room key good),
        positions-both l key,
        two_again (positions_in l) key bytes.small (omega arith),
      )
      (split l key)

  -- and written after read
  read_length : (bytes : List ℕ) → length (two_bytes (in_row (position_bits l.r) (positions_in l) bytes)) ≡ 2 * positions_in l
  read_length bytes =
      length-two_bytes (in_row (position_bits l.r) (positions_in l) bytes)
      ∙ ap (◌*◌ 2) (in_row-length (position_bits l.r) (positions_in l) (omega arith) bytes)

  pub unpacked-length : (bytes : List ℕ) → tail_bytes ≤ length bytes → length (unpacked l bytes) ≡ private_bytes l
  unfolding unpacked
  unpacked-length bytes room =
      length-append (two_bytes (in_row (position_bits l.r) (positions_in l) (row_part bytes))) (take tail_bytes bytes)
      ∙ ap₂ ◌+◌ (read_length (row_part bytes)) (length-take-le tail_bytes bytes room)

  pub packed-unpacked : (bytes : List ℕ) → length bytes ≡ packed_bytes l → Below 8 bytes → padded l bytes ≡ false
      → packed l (unpacked l bytes) ≡ bytes
  unfolding packed unpacked tail
  packed-unpacked bytes long small none =
      let w = position_bits l.r in
      let n = positions_in l in
      let list = in_row w n (row_part bytes) in
      let first = take tail_bytes bytes in
      let count : length list ≡ n = in_row-length w n (omega arith) (row_part bytes) in
      let size : length (row_part bytes) ≡ byte_length (n * w) = length-drop tail_bytes bytes ∙ omega arith in
      let back : numbers 2 n (two_bytes list ++ first) ≡ list = ap (λ (k : ℕ). numbers 2 k (two_bytes list ++ first)) (sym count) ∙ numbers_back list first in
      ap₂ ◌++◌ (drop_at (two_bytes list) first (2 * n) (read_length (row_part bytes)))
      (ap (row_of w n) (positions-both l (two_bytes list ++ first) ∙ back)
      ∙ row_of_in w n (omega arith) (row_part bytes) size (below_drop 8 tail_bytes bytes small) none)
      ∙ take-append-drop tail_bytes bytes
