-- Products before X^r = 1 is applied: what the inner functions of a product promise. No public promise cites this file.
-- Assumes nothing.
use Rattle.std.specs.Prelude.{◌≡◌, List, ◌⊎◌, ℕ, ◌+◌, ◌-◌, ◌*◌, ◌/◌, ◌%◌, ◌^◌, ◌≤◌, ◌<◌, leb, length, get_or}
use Rattle.hashing.specs.Lists.{bit_at, bits}
use Rattle.ring.specs.Polynomials.{Poly, both, over}
use Rattle.ring.specs.inner.Sizes.{leaf_words, short_words, row_words, table_words}

-- X^m times b
unfoldable pub shifted : ℕ → Poly → Poly
shifted m b k = both (leb m k) (b (k - m))

-- a, as far as its coefficients below n go, times b
unfoldable pub wide : ℕ → Poly → Poly → Poly
wide n a b k = over n a (λ i. shifted i b k)

-- i is none of the n from `at` on
abbrev pub Away : ℕ → ℕ → ℕ → Type 0
Away at n i = (i < at) ⊎ (at + n ≤ i)

-- y is x but for the n words from word `at` on
abbrev pub Outside : ℕ → ℕ → List ℕ → List ℕ → Type 0
Outside at n x y = (i : ℕ) → Away at n i → get_or y i 0 ≡ get_or x i 0

-- The comb's table for leaves of n words, whatever leaf it is of: row 0 is 0, and so is each row but for n + 1 words
-- after its first 6.
abbrev pub Clear : ℕ → List ℕ → Type 0
Clear n t = (length t ≡ table_words) × ((i : ℕ) → (i < row_words) ⊎ Away 6 (n + 1) (i % row_words) → get_or t i 0 ≡ 0)

-- Its first n rows are multiples of b: after 6 words of 0, row u is u times b, u's bits as coefficients.
abbrev pub Multiples : Poly → ℕ → List ℕ → Type 0
Multiples b n t = (u k : ℕ) → u < n → k < 64 * row_words → bits 64 t (64 * (row_words * u) + k) ≡ shifted 384 (wide 5 (bit_at u) b) k

-- Where in the table the row starts that the window at bit w picks for word j + m of a, moved up by m words.
abbrev pub start : List ℕ → ℕ → ℕ → ℕ → ℕ
start a w j m = row_words * (get_or a (j + m) 0 / 2 ^ w % 32) + (6 - m)

-- the words of a leaf of the dense product
abbrev pub Leaf : ℕ → Type 0
Leaf n = (n ≡ short_words) ⊎ (n ≡ leaf_words)
