-- The windows that a sparse product adds: a polynomial stands twice in a row, and behind it nothing. Assumes nothing.
use Rattle.std.specs.Prelude.{◌≡◌, ◌⊎◌, ℕ, ◌+◌, ◌-◌, ◌%◌, ◌≤◌, ◌<◌, leb}
use Rattle.ring.specs.Polynomials.{Poly, both}
use Rattle.ring.specs.inner.Sizes.{empty_window}

-- where a window may start: in the first of the two, or where all is empty
abbrev pub Start : ℕ → ℕ → Type 0
Start r from = (from ≤ r) ⊎ (from ≡ empty_window)

-- what it shows
unfoldable pub window : ℕ → Poly → ℕ → Poly
window r x from k = both (leb from r) (x ((from + k) % r))

-- where that of a position below 2r starts: one from r on stands for the exponent p - r, and one below r for nothing
abbrev pub UpperStart : ℕ → ℕ → ℕ → Type 0
UpperStart r p from = (r ≤ p → from ≡ r + r - p) × (p < r → from ≡ empty_window)
