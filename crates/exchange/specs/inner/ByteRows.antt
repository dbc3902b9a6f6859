-- How the decoder holds a polynomial as rows of bytes: eight copies twice in a row, each a bit further down, and behind
-- them a row of zeros. No public promise cites this file. Assumes nothing.
use Rattle.std.specs.Prelude.{◌≡◌, true, false, List, ℕ, ◌+◌, ◌-◌, ◌*◌, ◌/◌, ◌%◌, ◌≤◌, ◌<◌, ltb, get_or}
use Rattle.hashing.specs.Lists.{bits}
use Rattle.ring.specs.inner.Sizes.{words, word_bytes}
use Rattle.ring.specs.Polynomials.{Poly}

-- a block of the counters' planes
abbrev pub block_bytes : ℕ
block_bytes = 528

-- blocks of the largest polynomial
abbrev pub blocks : ℕ
blocks = (words + 65) / 66

-- one of the eight copies
abbrev pub row_bytes : ℕ
row_bytes = word_bytes + blocks * block_bytes

-- where the row of zeros starts
abbrev pub empty_row : ℕ
empty_row = 8 * row_bytes

abbrev pub rows_bytes : ℕ
rows_bytes = empty_row + blocks * block_bytes

-- where the window at bit b starts, in bytes
unfoldable pub row_at : ℕ → ℕ
row_at b = (b % 8) * row_bytes + b / 8

-- the row of zeros is there
abbrev pub EmptyRow : List ℕ → Type 0
EmptyRow f = (k : ℕ) → k < 8 * (blocks * block_bytes) → bits 8 f (8 * empty_row + k) ≡ false

-- the window at bit b has x from there on
abbrev pub ByteRows : ℕ → Poly → List ℕ → Type 0
ByteRows r x f = (b k : ℕ) → b ≤ r → k < r → bits 8 f (8 * row_at b + k) ≡ x ((b + k) % r)

-- x, and x again from place r on
unfoldable pub twice : ℕ → Poly → Poly
twice r x k = elim (ltb k r) [ true ↦ x k | false ↦ x (k - r) ]

-- where the row of x X^p starts, p the position at place i, and past the d positions where the zeros do
unfoldable pub turned_row : ℕ → List ℕ → ℕ → ℕ → ℕ
turned_row r positions d i = elim (ltb i d) [ true ↦ row_at (r - get_or positions i 0) | false ↦ empty_row ]
