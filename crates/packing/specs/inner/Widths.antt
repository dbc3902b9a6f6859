-- What the code asks where it lays a row out anew. No public promise cites this file. Assumes nothing.
use Rattle.std.specs.Prelude.{List, ℕ, ◌*◌, ◌≤◌, ◌<◌, length}
use Rattle.ring.specs.inner.Sizes.{word_bits}

-- `count` numbers of `from` bits each stand in the bytes; each is to have `to` bits
abbrev pub Widths : ℕ → ℕ → ℕ → List ℕ → Type 0
Widths count from to bytes =
    (0 < from) × (0 < to) × (count * from ≤ word_bits) × (count * from ≤ 8 * length bytes)
