-- A row of numbers and its bytes determine each other, over any width, any count and any list. Assumes nothing.
use mathlib.Core.Path.{◌≡◌, ap, ◌∙◌}
use mathlib.Core.Bool.{false}
use mathlib.Core.List.{List}
use Prim.Native.Nat.{ℕ, ◌+◌, ◌*◌, ◌/◌, ◌%◌, ◌≤◌, ◌<◌}
use lib.ListN.{length, get_or, get_or-eq_default}
use Rattle.hashing.specs.Lists.{bit_at, bits}
use Rattle.hashing.proofs.Words.{bit_above, bit_zero}
use Rattle.ring.specs.Bytes.{byte_length, pad_set}
use Rattle.ring.specs.Polynomials.{InRing}
use Rattle.ring.proofs.Binary.{bit_at-number}
use Rattle.ring.proofs.Layouts.{Below, bits_in, bits-list_of, list_of-bits, list_of-length, list_of_at, list_of_below, bits-bytes_of, bytes_of_bits, bytes_of_pad, pad_rule}
use Rattle.packing.specs.Packing.{row_of, in_row}

module _ (w n : ℕ) (pos : 0 < w) where
  row_in : (numbers : List ℕ) → length numbers ≡ n → InRing (n * w) (bits w numbers)
  row_in numbers long = rw long at (bits_in w pos numbers)

  pub in_row-length : (bytes : List ℕ) → length (in_row w n bytes) ≡ n
  unfolding in_row
  in_row-length bytes = list_of-length w pos n (bits 8 bytes)

  pub in_row_below : (bytes : List ℕ) → Below w (in_row w n bytes)
  unfolding in_row
  in_row_below bytes = list_of_below w pos n (bits 8 bytes)

  -- read after laid out, and laid out after read
  pub in_row_of : (numbers : List ℕ) → length numbers ≡ n → Below w numbers → in_row w n (row_of w n numbers) ≡ numbers
  unfolding row_of in_row
  in_row_of numbers long small = rw (bits-bytes_of (n * w) (row_in numbers long)) (list_of-bits w pos n numbers long small)

  pub row_of_in : (bytes : List ℕ) → length bytes ≡ byte_length (n * w) → Below 8 bytes → pad_set (n * w) bytes ≡ false
      → row_of w n (in_row w n bytes) ≡ bytes
  unfolding row_of in_row
  row_of_in bytes long small none =
      rw (bits-list_of w pos n ((pad_rule (n * w) bytes long small).0 none)) (bytes_of_bits (n * w) bytes long small)

  pub row_of_pad : (numbers : List ℕ) → length numbers ≡ n → pad_set (n * w) (row_of w n numbers) ≡ false
  unfolding row_of
  row_of_pad numbers long = bytes_of_pad (n * w) (row_in numbers long)

-- bit k of the row with `to` bits a number, of numbers with `from` bits each
module _ (from n : ℕ) (pos : 0 < from) (to k : ℕ) (bytes : List ℕ) where
  pub bit_past : n ≤ k / to → bits to (in_row from n bytes) k ≡ false
  unfolding in_row bits
  bit_past past =
      let end : length (in_row from n bytes) ≤ k / to = rw (in_row-length from n pos bytes) past in
      rw (get_or-eq_default (in_row from n bytes) 0 {n = k / to} end) (bit_zero (k % to))

  pub bit_short : from ≤ k % to → bits to (in_row from n bytes) k ≡ false
  unfolding in_row bits
  bit_short short =
      bit_above (get_or (in_row from n bytes) (k / to) 0) from (k % to) (in_row_below from n pos bytes (k / to)) short

  pub bit_there : k / to < n → k % to < from → bits to (in_row from n bytes) k ≡ bits 8 bytes (k / to * from + k % to)
  unfolding in_row bits
  bit_there within low =
      ap (λ (x : ℕ). bit_at x (k % to)) (list_of_at from pos n (bits 8 bytes) (k / to) within)
      ∙ bit_at-number from (λ j. bits 8 bytes (k / to * from + j)) (k % to) low
