-- CR 9: "a polynomial has an inverse exactly if its weight is odd and it isn't the all-ones polynomial, from the fact that the powers
-- of 2 modulo r run through 1 to r − 1". Assumes nothing.
use Rattle.std.specs.Prelude.{◌≡◌, ◌↔◌, true, ℕ, ◌%◌, ◌^◌, ◌<◌, ltb}
use Rattle.ring.specs.Polynomials.{Poly, InRing, weight, has_inverse}

-- each number from 1 to r - 1 is a power of 2 modulo r
abbrev pub RunsThrough : ℕ → Type 0
RunsThrough r = (j : ℕ) → 0 < j → j < r → (i : ℕ) × (2 ^ i % r ≡ j)

unfoldable pub all_ones : ℕ → Poly
all_ones r k = ltb k r

abbrev pub InverseExactlyIf : ℕ → Type 0
InverseExactlyIf r = (a : Poly) → InRing r a → (has_inverse r a ≡ true) ↔ ((weight r a % 2 ≡ 1) × (a ≡ all_ones r → ⊥))
