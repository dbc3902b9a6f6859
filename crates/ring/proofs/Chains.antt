-- The chain computes a^(2^(r-1) - 2): each rung holds a^(2^k - 1), and k is what the digits read so far make. Assumes nothing.
use mathlib.Core.Path.{◌≡◌, refl, sym, ap, ◌∙◌}
use mathlib.Core.Bool.{Bool, true, false}
use mathlib.Core.List.{List, [], ◌∷◌}
use Prim.Native.Nat.{ℕ, zero, suc, ◌+◌, ◌-◌, ◌/◌, ◌^◌, ◌≤◌, ◌<◌}
use native.Mathlib.Nat.{le_refl, add-zero, zero-add, add_assoc, div-one}
use native.Mathlib.Numerals.{one-add, add-one}
use native.Mathlib.Omega.{arith}
use lib.Pow.{shr-shr}
use lib.Dec.{ltb}
use borrow.Author.Tests.{ltb-true, ltb-false}
use Rattle.hashing.specs.Lists.{bit_at}
use Rattle.ring.specs.Polynomials.{Poly, InRing, bit, mul, spread, pow}
use Rattle.ring.specs.Chain.{Rung, doubled, longer, climb, digits, halvings, top, climbed, chain, chain_products}
use Rattle.ring.proofs.Binary.{bit-bit_at}
use Rattle.ring.proofs.Powers
use Rattle.ring.proofs.Inverses

-- above its highest digit a number has nothing
halvings-one : (steps u : ℕ) → 0 < u → u ≤ steps → u / 2 ^ halvings steps u ≡ 1
unfolding halvings
halvings-one zero u some few = omega arith
halvings-one (suc steps) u some few = go (ltb u 2) refl (halvings-one steps (u / 2))
  where
    more : ℕ
    more = halvings steps (u / 2)

    go : (t : Bool) → ltb u 2 ≡ t → (0 < u / 2 → u / 2 ≤ steps → u / 2 / 2 ^ more ≡ 1)
        → u / 2 ^ (elim t [ true ↦ 0 | false ↦ suc more ]) ≡ 1
    go true e before = let only : u ≡ 1 = omega (arith, ltb-true u 2 e) in rw only
    go false e before =
        let big : 2 ≤ u = ltb-false u 2 e in
        rw (← one-add more, ← shr-shr u 1 more) (before (omega arith) (omega arith))

pub top_one : (u : ℕ) → 0 < u → u / 2 ^ top u ≡ 1
unfolding top
top_one u some = halvings-one u u some (le_refl u)

-- with each digit of u that is read the span has one digit more of u
pub next_span : (r : ℕ) (a : Poly) (u n : ℕ) (e : Rung) → e.span ≡ u / 2 ^ suc n
    → (longer r a (bit_at u n) (doubled r e)).span ≡ u / 2 ^ n
unfolding longer doubled
next_span r a u n e l =
    rw (step_span (bit_at u n), bit-bit_at u n, l, ← add-one n, ← shr-shr u n 1) (omega arith)
  where
    step_span : (digit : Bool) → (longer r a digit (doubled r e)).span ≡ e.span + e.span + bit digit
    step_span true = refl
    step_span false = sym (add-zero (e.span + e.span))

module _ (r : ℕ) (pos : 0 < r) {a : Poly} (ha : InRing r a) where
  pub double_rung : (k : ℕ) → mul r (spread r (2 ^ k) (pow r a (2 ^ k - 1))) (pow r a (2 ^ k - 1)) ≡ pow r a (2 ^ (k + k) - 1)
  double_rung k = sym (Inverses.ones_add r pos a k k)

  pub longer_rung : (k : ℕ) → mul r (spread r 2 (pow r a (2 ^ k - 1))) a ≡ pow r a (2 ^ (k + 1) - 1)
  longer_rung k =
      ap (mul r (spread r 2 (pow r a (2 ^ k - 1)))) (sym (Powers.pow_self r pos ha)) ∙ sym (Inverses.ones_add r pos a k 1)

  Holds : Rung → Type 0
  Holds e = e.value ≡ pow r a (2 ^ e.span - 1)

  step_holds : (digit : Bool) (e : Rung) → Holds e → Holds (longer r a digit (doubled r e))
  unfolding Holds longer doubled
  step_holds true e h = rw (h, double_rung e.span) (longer_rung (e.span + e.span))
  step_holds false e h = rw h (double_rung e.span)

  climb-holds : (u n : ℕ) (e : Rung) → Holds e → e.span ≡ u / 2 ^ n → (climb r a e (digits n u)).value ≡ pow r a (2 ^ u - 1)
  unfolding Holds climb digits
  climb-holds u zero e h l = rw (h, l, div-one u)
  climb-holds u (suc n) e h l =
      climb-holds u n (longer r a (bit_at u n) (doubled r e)) (step_holds (bit_at u n) e h) (next_span r a u n e l)

  pub chain_is : 2 < r → chain r a ≡ Inverses.candidate r a
  unfolding chain climbed Holds
  chain_is big =
      let u : ℕ = r - 2 in
      ap (spread r 2)
      (climb-holds u (top u) (record { value = a; span = 1; products = 0 }) (sym (Powers.pow_self r pos ha)) (sym (top_one u (omega arith))))
      ∙ Inverses.ones_end r pos a (omega arith)

-- A product for each digit that is read, and one more for each that is 1: the digits of u but the highest, and its ones but that.
unfoldable pub price : List Bool → ℕ
price [] = 0
price (digit ∷ rest) = 1 + bit digit + price rest

pub climb_price : (r : ℕ) (a : Poly) (e : Rung) (read : List Bool) → (climb r a e read).products ≡ e.products + price read
unfolding climb longer doubled price
climb_price r a e [] = sym (add-zero e.products)
climb_price r a e (digit ∷ rest) =
    climb_price r a (longer r a digit (doubled r e)) rest ∙ rw (step_price digit) (add_assoc e.products (1 + bit digit) (price rest))
  where
    step_price : (digit : Bool) → (longer r a digit (doubled r e)).products ≡ e.products + (1 + bit digit)
    step_price true = omega arith
    step_price false = omega arith

pub chain_products_lem : (r : ℕ) (a : Poly) → chain_products r a ≡ price (digits (top (r - 2)) (r - 2))
unfolding chain_products climbed
chain_products_lem r a = climb_price r a _ (digits (top (r - 2)) (r - 2)) ∙ zero-add _
