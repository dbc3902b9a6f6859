-- The parts of a map write: n bytes and a number of n bytes determine each other, what is written is read back, and a
-- record is cut into its parts. Assumes nothing.
use mathlib.Core.Path.{◌≡◌, refl, sym, ap, ap₂, ◌∙◌}
use mathlib.Core.List.{List, [], ◌∷◌, ◌++◌, append_assoc}
use Prim.Native.Nat.{ℕ, zero, suc, ◌+◌, ◌*◌, ◌/◌, ◌%◌, ◌^◌, ◌≤◌, ◌<◌}
use native.Mathlib.Nat.{pow-suc, div-lt_iff_lt-mul}
use native.Mathlib.Omega.{arith}
use lib.Arith.{lt-one}
use lib.Dec.{lit<}
use lib.ListN.{length, take, drop, length-append, length-drop}
use lib.Seq.{take_at, drop_at, take-add, drop-drop, length-take-le}
use Rattle.std.specs.Int.{w32, to_le_bytes}
use Rattle.hashing.specs.Kmac.{kmac256, cshake256}
use Rattle.hashing.proofs.sponge.Squeezing.{sponge-length}
use Rattle.ring.specs.Bytes.{little_endian}
use Rattle.ring.proofs.Layouts.{Below}
use Rattle.exchange.specs.Records.{body_of, kind_of}
use Rattle.exchange.proofs.Streams.{below_take, below_drop}
use Rattle.maps.specs.Writes.{map_bytes, tag_bytes, covered_bytes, map_body, record_bytes, map_kind, little_bytes, covered, tag_of, written, kart_in, counter_in, map_in, covered_in, tag_in}

-- ---- numbers of n bytes

pub number_back : (n x : ℕ) → x < 256 ^ n → little_endian (little_bytes n x) ≡ x
unfolding little_endian little_bytes
number_back zero x small = sym (lt-one small)
number_back (suc n) x small =
    let rest = number_back n (x / 256) ((div-lt_iff_lt-mul (lit< tt)).1 (rw pow-suc at small)) in
    rw rest (omega arith)

pub bytes_back : (n : ℕ) (xs : List ℕ) → length xs ≡ n → Below 8 xs → little_bytes n (little_endian xs) ≡ xs
unfolding little_endian little_bytes
bytes_back zero [] long small = refl
bytes_back zero (x ∷ xs) long small = absurd (omega arith)
bytes_back (suc n) [] long small = absurd (omega arith)
bytes_back (suc n) (x ∷ xs) long small =
    let byte = small 0 in
    let low : (x + 256 * little_endian xs) % 256 ≡ x = omega arith in
    let high : (x + 256 * little_endian xs) / 256 ≡ little_endian xs = omega arith in
    rw (low, high) (ap (◌∷◌ x) (bytes_back n xs (omega arith) (λ i. small (suc i))))

-- four of them, as the library has them
pub four_little : (x : ℕ) → to_le_bytes w32 x ≡ little_bytes 4 x
unfolding little_bytes
four_little x =
    let third : x / 65536 ≡ x / 256 / 256 = omega arith in
    let fourth : x / 16777216 ≡ x / 256 / 256 / 256 = omega arith in
    rw (third, fourth)

-- ---- what is written

pub tag_length : (key bytes : List ℕ) → length (tag_of key bytes) ≡ tag_bytes
unfolding tag_of kmac256 cshake256
tag_length key bytes = sponge-length 136 (lit< tt) 0x04 _ tag_bytes

pub covered-length : (level kart counter : ℕ) (map : List ℕ) → length map ≡ map_bytes → length (covered level kart counter map) ≡ covered_bytes
unfolding covered little_bytes
covered-length level kart counter map size = rw size

-- and read back, with any bytes after it
module _ (level : ℕ) (key : List ℕ) (kart counter : ℕ) (map : List ℕ) (size : length map ≡ map_bytes) (after : List ℕ) where
  pub written_long : record_bytes ≤ length (written level key kart counter map ++ after)
  unfolding written little_bytes
  written_long =
      let what = covered level kart counter map in
      omega (
        arith,
        length-append (little_bytes 4 map_body ++ (what ++ tag_of key what)) after,
        length-append what (tag_of key what),
        covered-length level kart counter map size,
        tag_length key what,
      )

  pub written_body : body_of (written level key kart counter map ++ after) ≡ map_body
  unfolding written little_bytes body_of little_endian
  written_body = refl

  pub written-covered : covered_in (written level key kart counter map ++ after) ≡ covered level kart counter map
  unfolding written little_bytes covered_in
  written-covered =
      let what = covered level kart counter map in
      rw (append_assoc what (tag_of key what) after) (take_at what (tag_of key what ++ after) covered_bytes (covered-length level kart counter map size))

  pub written_tag : tag_in (written level key kart counter map ++ after) ≡ tag_of key (covered level kart counter map)
  unfolding written little_bytes tag_in
  written_tag =
      let what = covered level kart counter map in
      let tag = tag_of key what in
      rw (append_assoc what tag after, drop_at what (tag ++ after) 266 (covered-length level kart counter map size))
      (take_at tag after tag_bytes (tag_length key what))

  pub written-map : map_in (written level key kart counter map ++ after) ≡ map
  unfolding written covered little_bytes map_in
  written-map = rw (append_assoc map _ after) (take_at map _ map_bytes size)

  pub written_kind : level < 256 → kind_of (written level key kart counter map ++ after) ≡ map_kind level
  unfolding written covered little_bytes kind_of little_endian map_kind
  written_kind small = omega arith

  pub written_kart : kart < 2 ^ 32 → kart_in (written level key kart counter map ++ after) ≡ kart
  unfolding written covered little_bytes kart_in
  written_kart small = number_back 4 kart small

  pub written-counter : counter < 2 ^ 32 → counter_in (written level key kart counter map ++ after) ≡ counter
  unfolding written covered little_bytes counter_in
  written-counter small = number_back 4 counter small

-- ---- what is lent, cut into its parts

cut : (n m at : ℕ) (xs : List ℕ) → take (n + m) (drop at xs) ≡ take n (drop at xs) ++ take m (drop (at + n) xs)
cut n m at xs =
    take-add n m (drop at xs) ∙ ap (λ (rest : List ℕ). take n (drop at xs) ++ take m rest) (drop-drop n at xs)

pub map_long : (bytes : List ℕ) → record_bytes ≤ length bytes → length (map_in bytes) ≡ map_bytes
unfolding map_in
map_long bytes whole = length-take-le map_bytes (drop 14 bytes) (simp length-drop (omega arith))

module _ (bytes : List ℕ) (whole : record_bytes ≤ length bytes) (small : Below 8 bytes) where
  part_back : (n at : ℕ) → at + n ≤ length bytes → little_bytes n (little_endian (take n (drop at bytes))) ≡ take n (drop at bytes)
  part_back n at within =
      let long : n ≤ length (drop at bytes) = simp length-drop (omega arith) in
      bytes_back n (take n (drop at bytes)) (length-take-le n (drop at bytes) long) (below_take 8 n (drop at bytes) (below_drop 8 at bytes small))

  pub covered_parts : (level : ℕ) → kind_of bytes ≡ map_kind level → covered_in bytes ≡ covered level (kart_in bytes) (counter_in bytes) (map_in bytes)
  unfolding covered_in covered kart_in counter_in map_in kind_of
  covered_parts level kind =
      cut 2 264 4 bytes
      ∙ ap₂ ◌++◌ (sym (part_back 2 4 (omega arith)) ∙ ap (little_bytes 2) kind)
      (cut 4 260 6 bytes
      ∙ ap₂ ◌++◌ (sym (part_back 4 6 (omega arith)))
      (cut 4 256 10 bytes ∙ ap (λ (part : List ℕ). part ++ take map_bytes (drop 14 bytes)) (sym (part_back 4 10 (omega arith)))))

  pub whole_parts : body_of bytes ≡ map_body → take record_bytes bytes ≡ little_bytes 4 map_body ++ (covered_in bytes ++ tag_in bytes)
  unfolding body_of covered_in tag_in
  whole_parts body =
      cut 4 298 0 bytes ∙ ap₂ ◌++◌ (sym (part_back 4 0 (omega arith)) ∙ ap (little_bytes 4) body) (cut 266 32 4 bytes)
