-- The largest sizes, for the code's arrays and loops: three numbers that follow the level table, and all others from these.
-- No public promise cites this file. Assumes nothing.
use Rattle.std.specs.Prelude.{ℕ, ◌+◌, ◌*◌, ◌/◌}
use Rattle.ring.specs.Levels.{message_bytes, tail_bytes}

-- words of 64 bits for a polynomial, weight of a half of a private key, weight of an error
abbrev pub words : ℕ
words = 641

abbrev pub most_d : ℕ
most_d = 137

abbrev pub most_t : ℕ
most_t = 264

-- the bits and the bytes of these words
abbrev pub word_bits : ℕ
word_bits = 64 * words

abbrev pub word_bytes : ℕ
word_bytes = 8 * words

-- The sparse product has a polynomial twice in a row, and behind it an empty window of one word more than a polynomial has: the bit at
-- which that starts, and the words of all.
abbrev pub empty_window : ℕ
empty_window = 64 * (2 * words)

abbrev pub window_words : ℕ
window_words = 3 * words + 1

-- the starts of the sparse product's windows, in passes of eight
abbrev pub most_starts : ℕ
most_starts = 8 * ((most_t + 7) / 8)

-- The dense product: the words of the longer leaf and of the shorter, of half of the longest factor, of it, and of its product before
-- it is reduced. A row of the comb's table has one word more than a leaf, after 6 words of 0 and before at least 6; where row 1 has the
-- leaf itself.
abbrev pub leaf_words : ℕ
leaf_words = 49

abbrev pub short_words : ℕ
short_words = 42

abbrev pub half_words : ℕ
half_words = 8 * short_words

abbrev pub factor_words : ℕ
factor_words = 2 * half_words

abbrev pub wide_words : ℕ
wide_words = 2 * factor_words

abbrev pub row_words : ℕ
row_words = 64

abbrev pub table_words : ℕ
table_words = 32 * row_words

abbrev pub first_row : ℕ
first_row = row_words + 6

-- what the sampler reads: 4 bytes for a position of an error
abbrev pub error_bytes : ℕ
error_bytes = 4 * most_t

-- a private key and a ciphertext
abbrev pub most_private_bytes : ℕ
most_private_bytes = 2 * (most_d + most_d) + tail_bytes

abbrev pub most_ciphertext_bytes : ℕ
most_ciphertext_bytes = word_bytes + message_bytes
