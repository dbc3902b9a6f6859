-- `multiply::fill_two` meets its contract: i words of both rows are right, and all else is as it was. Assumes nothing.
use mathlib.Core.Path.{◌≡◌}
use mathlib.Core.List.{List}
use Prim.Native.Nat.{ℕ, ◌+◌, ◌-◌, ◌*◌, ◌≤◌, ◌<◌}
use lib.ListN.{length, get_or}
use Rattle.hashing.specs.Lists.{bit_at, bits}
use Rattle.ring.specs.Polynomials.{flip}
use Rattle.ring.specs.inner.Wide.{Away}
use Rattle.ring.specs.inner.Sizes.{row_words, first_row}
use Rattle.ring.proofs.multiply.fill_two.Given as goal

abbrev pub Odd : List ℕ → ℕ → ℕ → ℕ → Type 0
Odd t from j y =
    (e : ℕ) → e < 64 → bit_at y e ≡ flip (bits 64 t (64 * from + (64 * j + e) - 1)) (bits 64 t (64 * first_row + (64 * j + e)))

-- word j of the even row, and of the odd one
abbrev pub Even : List ℕ → ℕ → ℕ → ℕ → Type 0
Even t from j y = (e : ℕ) → e < 64 → bit_at y e ≡ bits 64 t (64 * from + (64 * j + e) - 1)

abbrev pub invariant-loop-i : goal.invariant-loop-i
invariant-loop-i l =
    (l.i ≤ l.n + 1) × (length l.t ≡ length l.initial.t) × ((j : ℕ) → Away l.to l.i j → Away (l.to + row_words) l.i j → get_or l.t j 0 ≡ get_or l.initial.t j 0)
    × ((j : ℕ) → j < l.i → Even l.initial.t l.from j (get_or l.t (l.to + j) 0)) × ((j : ℕ) → j < l.i → Odd l.initial.t l.from j (get_or l.t (l.to + row_words + j) 0))
