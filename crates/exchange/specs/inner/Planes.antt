-- What the functions of `planes` promise. The counters of all places lie in planes: plane k has the bit of weight 2^k
-- of each, 64 places to a word. No public promise cites this file. Assumes nothing.
use Rattle.std.specs.Prelude.{◌≡◌, Bool, true, ◌&&◌, ◌||◌, List, ◌⊎◌, ℕ, zero, suc, ◌+◌, ◌*◌, ◌/◌, ◌%◌, ◌≤◌, ◌<◌, get_or}
use Rattle.std.specs.Bool.{xor}
use Rattle.hashing.specs.Lists.{tab, bit_at, bits}
use Rattle.ring.specs.inner.Sizes.{most_d}
use Rattle.ring.specs.Bytes.{number}
use Rattle.ring.specs.Polynomials.{bit}
use Rattle.exchange.specs.inner.ByteRows.{block_bytes, blocks, empty_row}
use Rattle.exchange.specs.inner.Counting.{total}

abbrev pub planes : ℕ
planes = 8

-- the words of a block, of a plane, and of all planes
abbrev pub block_words : ℕ
block_words = block_bytes / 8

abbrev pub plane_words : ℕ
plane_words = blocks * block_words

abbrev pub planes_words : ℕ
planes_words = planes * plane_words

-- the starts of rows, in passes of eight
abbrev pub row_starts : ℕ
row_starts = 8 * ((most_d + 7) / 8)

-- word i of each plane
unfoldable pub column : List ℕ → ℕ → List ℕ
column p i = tab planes (λ k. get_or p (plane_words * k + i) 0)

-- the number at place e of a word of each plane
unfoldable pub number_at : List ℕ → ℕ → ℕ
number_at q e = number planes (λ k. bit_at (get_or q k 0) e)

-- the counter of place j
unfoldable pub counter_at : List ℕ → ℕ → ℕ
counter_at p j = number_at (column p (j / 64)) (j % 64)

-- how many of the words of x have place e set
unfoldable pub ones_at : List ℕ → ℕ → ℕ
ones_at x e = total 8 (λ m. bit (bit_at (get_or x m 0) e))

-- 1 where the row at place m of the starts has place j set, else 0
unfoldable pub in_row : List ℕ → List ℕ → ℕ → ℕ → ℕ
in_row f starts j m = bit (bits 8 f (8 * get_or starts m 0 + j))

-- each row at the starts lies within the rows
abbrev pub Within : List ℕ → Type 0
Within starts = (m : ℕ) → m < row_starts → get_or starts m 0 ≤ empty_row

-- the columns outside the block at word `from` are kept
abbrev pub Kept : ℕ → List ℕ → List ℕ → Type 0
Kept from p q = (i : ℕ) → i < plane_words → (i < from) ⊎ (from + block_words ≤ i) → column q i ≡ column p i

-- The number whose digits are f against a bound, the lowest digit first: what the lower digits told stands where this
-- digit is as the bound's, and else this digit tells. `clear k` says that digit k of the bound is 0.
unfoldable pub reaches : ℕ → (ℕ → Bool) → (ℕ → Bool) → Bool
reaches zero clear f = true
reaches (suc k) clear f = reaches k clear f && f k || xor (reaches k clear f) (f k) && clear k

-- the same at place e of a column, whose words `clear` tells where the bound's digits are 0
unfoldable pub reaches_at : List ℕ → List ℕ → ℕ → Bool
reaches_at clear q e = reaches planes (λ k. bit_at (get_or clear k 0) e) (λ k. bit_at (get_or q k 0) e)
