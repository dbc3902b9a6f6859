-- A polynomial of the ring and its list of bytes (or of words of w bits) determine each other, and the pad rule says exactly that
-- the bytes are those of a polynomial of the ring. Assumes nothing.
use mathlib.Core.Path.{◌≡◌, sym, ap, ◌∙◌}
use mathlib.Core.Logic.{◌↔◌}
use mathlib.Core.Bool.{false}
use mathlib.Core.List.{List}
use Prim.Native.Nat.{ℕ, ◌+◌, ◌*◌, ◌/◌, ◌%◌, ◌^◌, ◌<◌, zero-le, suc-le-suc}
use native.Mathlib.Nat.{le_of_eq, mod-lt, mod-eq_of_lt, div-eq_of_lt, div-lt_iff_lt-mul, le-div_iff_mul-le, div-add-mod'}
use native.Mathlib.Decide.{dec_lt, ℕ_discrete}
use native.Mathlib.Omega.{arith}
use lib.Arith.{digits_div, digits_mod}
use lib.Dec.{ltb, lit<}
use lib.ListN.{length, get_or, get_or-eq_default}
use lib.Pow.{pow_pos}
use lib.Seq.{ext_get_or}
use borrow.Author.Tests.{ltb-false, le-ltb}
use Rattle.hashing.proofs.Words.{bit_above}
use Rattle.hashing.specs.Lists.{bit_at, bits}
use Rattle.hashing.proofs.Lists.{length-tab, get_or-tab}
use Rattle.ring.specs.Polynomials.{Poly, InRing}
use Rattle.ring.specs.Bytes.{number, list_of, byte_length, bytes_of, pad_set}
use Rattle.ring.proofs.Ring.{ring_ext}
use Rattle.ring.proofs.Binary.{number_ext, number_lt, number_below, bit_at-number, number-bit_at}

-- every element of a list has w bits
abbrev pub Below : ℕ → List ℕ → Type 0
Below w xs = (i : ℕ) → get_or xs i 0 < 2 ^ w

module _ (w : ℕ) (pos : 0 < w) where
  pub bits_at : (xs : List ℕ) (i j : ℕ) → j < w → bits w xs (i * w + j) ≡ bit_at (get_or xs i 0) j
  unfolding bits
  bits_at xs i j below = rw (digits_div i below, digits_mod i below)

  pub bits_in : (xs : List ℕ) → InRing (length xs * w) (bits w xs)
  unfolding bits
  bits_in xs k past =
      rw (get_or-eq_default xs 0 ((le-div_iff_mul-le pos).1 past)) (bit_above 0 0 (k % w) (pow_pos 0) zero-le)

  pub list_of-length : (n : ℕ) (a : Poly) → length (list_of w n a) ≡ n
  unfolding list_of
  list_of-length n a = length-tab n (λ i. number w (λ j. a (i * w + j)))

  pub list_of_at : (n : ℕ) (a : Poly) (i : ℕ) → i < n → get_or (list_of w n a) i 0 ≡ number w (λ j. a (i * w + j))
  unfolding list_of
  list_of_at n a i below = get_or-tab n (λ k. number w (λ j. a (k * w + j))) 0 i below

  pub list_of_below : (n : ℕ) (a : Poly) → Below w (list_of w n a)
  list_of_below n a i = go (dec_lt i n)
    where
      go : Dec (i < n) → get_or (list_of w n a) i 0 < 2 ^ w
      go (yes below) = rw (list_of_at n a i below) (number_lt w (λ j. a (i * w + j)))
      go (no past) = rw (get_or-eq_default (list_of w n a) 0 {n = i} (rw (list_of-length n a) (omega arith))) (pow_pos w)

  pub bits-list_of : (n : ℕ) {a : Poly} → InRing (n * w) a → bits w (list_of w n a) ≡ a
  unfolding bits
  bits-list_of n {a} ha =
      ring_ext (n * w) (rw (list_of-length n a) at (bits_in (list_of w n a))) ha
      (λ k below. ap (λ (x : ℕ). bit_at x (k % w)) (list_of_at n a (k / w) ((div-lt_iff_lt-mul pos).1 below))
      ∙ bit_at-number w (λ j. a (k / w * w + j)) (k % w) (mod-lt k pos) ∙ ap a (div-add-mod' k w))

  pub list_of-bits : (n : ℕ) (xs : List ℕ) → length xs ≡ n → Below w xs → list_of w n (bits w xs) ≡ xs
  list_of-bits n xs long small =
      ext_get_or 0 (list_of w n (bits w xs)) xs (list_of-length n (bits w xs) ∙ sym long)
      (λ i below. list_of_at n (bits w xs) i (rw list_of-length at below) ∙ number_ext w (λ j low. bits_at xs i j low)
      ∙ number-bit_at w (get_or xs i 0) ∙ mod-eq_of_lt (small i))

-- bytes
pub bytes_of-length : (r : ℕ) (a : Poly) → length (bytes_of r a) ≡ byte_length r
unfolding bytes_of
bytes_of-length r a = list_of-length 8 (lit< tt) (byte_length r) a

pub bytes_of_below : (r : ℕ) (a : Poly) → Below 8 (bytes_of r a)
unfolding bytes_of
bytes_of_below r a = list_of_below 8 (lit< tt) (byte_length r) a

pub bits-bytes_of : (r : ℕ) {a : Poly} → InRing r a → bits 8 (bytes_of r a) ≡ a
unfolding bytes_of
bits-bytes_of r ha = bits-list_of 8 (lit< tt) (byte_length r) (λ k past. ha k (omega arith))

pub bytes_of_bits : (r : ℕ) (xs : List ℕ) → length xs ≡ byte_length r → Below 8 xs → bytes_of r (bits 8 xs) ≡ xs
unfolding bytes_of
bytes_of_bits r xs long small = list_of-bits 8 (lit< tt) (byte_length r) xs long small

-- no pad bit is set exactly if the bytes are those of a polynomial of the ring
pub pad_rule : (r : ℕ) (xs : List ℕ) → length xs ≡ byte_length r → Below 8 xs → (pad_set r xs ≡ false) ↔ InRing r (bits 8 xs)
unfolding pad_set bits
pad_rule r xs long small = (there, back)
  where
    last : ℕ
    last = get_or xs (r / 8) 0

    there : ltb 0 (last / 2 ^ (r % 8)) ≡ false → InRing r (bits 8 xs)
    there e k past = go (ℕ_discrete (k / 8) (r / 8))
      where
        low : last < 1 * 2 ^ (r % 8)
        low = (div-lt_iff_lt-mul (pow_pos (r % 8))).0 (suc-le-suc (ltb-false 0 (last / 2 ^ (r % 8)) e))

        go : Dec (k / 8 ≡ r / 8) → bit_at (get_or xs (k / 8) 0) (k % 8) ≡ false
        go (yes same) = rw same (bit_above last (r % 8) (k % 8) (omega (arith, low)) (omega arith))
        go (no after) = rw (get_or-eq_default xs 0 {n = k / 8} (omega arith)) (bit_above 0 0 (k % 8) (pow_pos 0) zero-le)

    back : InRing r (bits 8 xs) → ltb 0 (last / 2 ^ (r % 8)) ≡ false
    back ha = le-ltb 0 (last / 2 ^ (r % 8)) (le_of_eq (div-eq_of_lt low))
      where
        low : last < 2 ^ (r % 8)
        low =
            rw (number-bit_at 8 last, mod-eq_of_lt (small (r / 8))) at
            (number_below 8 (r % 8) (bit_at last)
            (λ j from below. sym (bits_at 8 (lit< tt) xs (r / 8) j below) ∙ ha (r / 8 * 8 + j) (omega arith)))

-- the bytes of a polynomial of the ring have no pad bit
pub bytes_of_pad : (r : ℕ) {a : Poly} → InRing r a → pad_set r (bytes_of r a) ≡ false
bytes_of_pad r {a} ha = (pad_rule r (bytes_of r a) (bytes_of-length r a) (bytes_of_below r a)).1 (rw (bits-bytes_of r ha) ha)
