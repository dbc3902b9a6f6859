-- Two bytes to a number are a row of 16 bits to a number. Assumes nothing.
use mathlib.Core.Path.{◌≡◌, sym, ap, ◌∙◌}
use mathlib.Core.List.{List, [], ◌∷◌, append-nil}
use Prim.Native.Nat.{ℕ, zero, suc, ◌+◌, ◌-◌, ◌*◌, ◌/◌, ◌%◌, ◌^◌, ◌<◌}
use native.Mathlib.Decide.{dec_lt}
use native.Mathlib.Omega.{arith}
use lib.Dec.{lit<}
use lib.ListN.{length, get_or, take, drop}
use lib.Pow.{pow_pos}
use Rattle.hashing.specs.Lists.{bit_at, bits}
use Rattle.hashing.proofs.Lists.{tab_ext}
use Rattle.hashing.proofs.Words.{bits_at, bit-mod, bit_shr}
use Rattle.ring.specs.Bytes.{number, list_of, byte_length, little_endian, numbers}
use Rattle.ring.proofs.Binary.{number_of}
use Rattle.ring.proofs.Layouts.{Below, bits_in, pad_rule}
use Rattle.ring.proofs.little_endian.Laws.{bytes_below}
use Rattle.exchange.specs.Scheme.{two_bytes}
use Rattle.exchange.proofs.Making.{numbers_back, length-two_bytes, two_at}
use Rattle.packing.specs.Packing.{row_of, in_row}
use Rattle.packing.proofs.Rows.{row_of_in}

-- the number of two bytes, bit by bit
two_bits : (bytes : List ℕ) → Below 8 bytes → (i : ℕ) → little_endian (take 2 (drop (2 * i) bytes)) ≡ number 16 (λ e. bits 8 bytes (i * 16 + e))
two_bits bytes small i =
    number_of 16 x (λ e. bits 8 bytes (i * 16 + e)) (omega (arith, bytes_below 2 (2 * i) bytes small)) (λ e below. go e below (dec_lt e 8))
  where
    x : ℕ
    x = little_endian (take 2 (drop (2 * i) bytes))

    low : x % 2 ^ 8 ≡ get_or bytes (2 * i) 0
    low = omega (arith, two_at (2 * i) bytes, small (2 * i))

    high : x / 2 ^ 8 ≡ get_or bytes (2 * i + 1) 0
    high = omega (arith, two_at (2 * i) bytes, small (2 * i))

    go : (e : ℕ) → e < 16 → Dec (e < 8) → bit_at x e ≡ bits 8 bytes (i * 16 + e)
    go e below (yes first) =
        sym (bit-mod x 8 e first) ∙ ap (λ (y : ℕ). bit_at y e) low ∙ sym (bits_at 8 bytes (2 * i) e (omega arith) first)
    go e below (no second) =
        let back : e - 8 + 8 ≡ e = omega arith in
        ap (bit_at x) (sym back) ∙ sym (bit_shr x 8 (e - 8)) ∙ ap (λ (y : ℕ). bit_at y (e - 8)) high
        ∙ sym (bits_at 8 bytes (2 * i + 1) (e - 8) (omega arith) (omega arith))

pub numbers-row : (n : ℕ) (bytes : List ℕ) → Below 8 bytes → numbers 2 n bytes ≡ in_row 16 n bytes
unfolding numbers in_row list_of
numbers-row n bytes small = tab_ext n _ _ (λ i below. two_bits bytes small i)

-- bytes of whole numbers have no pad
whole : (n : ℕ) (bytes : List ℕ) → length bytes ≡ 2 * n → Below 8 bytes → row_of 16 n (in_row 16 n bytes) ≡ bytes
whole n bytes long small =
    row_of_in 16 n (lit< tt) bytes size small
    ((pad_rule (n * 16) bytes size small).1 (λ k past. bits_in 8 (lit< tt) bytes k (omega arith)))
  where
    size : length bytes ≡ byte_length (n * 16)
    size = omega arith

two_bytes_below : (list : List ℕ) → Below 16 list → Below 8 (two_bytes list)
unfolding two_bytes
two_bytes_below [] small i = pow_pos 8
two_bytes_below (p ∷ list) small zero = omega arith
two_bytes_below (p ∷ list) small (suc zero) = let first = small 0 in omega arith
two_bytes_below (p ∷ list) small (suc (suc i)) = two_bytes_below list (λ j. small (suc j)) i

pub two_bytes-row : (n : ℕ) (list : List ℕ) → length list ≡ n → Below 16 list → two_bytes list ≡ row_of 16 n list
two_bytes-row n list long small =
    let bytes = two_bytes_below list small in
    let back : numbers 2 n (two_bytes list) ≡ list = rw (← long, ← append-nil (two_bytes list)) (numbers_back list []) in
    sym (whole n (two_bytes list) (length-two_bytes list ∙ ap (◌*◌ 2) long) bytes)
    ∙ ap (row_of 16 n) (sym (numbers-row n (two_bytes list) bytes) ∙ back)
