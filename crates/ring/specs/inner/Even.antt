-- Half a word at the even places of a word, which takes five steps: blocks of s bits that stand apart; and how a square is made of halves. Assumes nothing.
use Rattle.std.specs.Prelude.{◌≡◌, false, ℕ, ◌+◌, ◌*◌, ◌/◌, ◌%◌, ◌<◌}
use Rattle.hashing.specs.Lists.{bit_at}

-- n blocks of s bits of y stand in v, with as many zeros after each
pub record Blocks (s n y v : ℕ) : Type 0 where
  pub there : (q t : ℕ) → q < n → t < s → bit_at v (s * q + s * q + t) ≡ bit_at y (s * q + t)
  pub between : (q t : ℕ) → q < n → t < s → bit_at v (s * q + s * q + s + t) ≡ false

-- where bit k of a square comes from: bit k / 2, and for an odd k that bit of the polynomial from its middle on
unfoldable pub source : ℕ → ℕ → ℕ
source middle k = k / 2 + k % 2 * middle
