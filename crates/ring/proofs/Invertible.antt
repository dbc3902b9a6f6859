-- Where the powers of 2 modulo r run through 1 to r - 1, a polynomial has an inverse exactly if its weight is odd and it is not the
-- all-ones polynomial. Assumes nothing.
use mathlib.Core.Path.{◌≡◌, refl, sym, ap, ap₂, ◌∙◌}
use mathlib.Core.Bool.{Bool, true, false, true≢false}
use Prim.Native.Nat.{ℕ, zero, suc, ◌+◌, ◌-◌, ◌*◌, ◌/◌, ◌%◌, ◌^◌, ◌<◌}
use native.Mathlib.Nat.{mod-lt, mod-eq_of_lt, zero-mod}
use native.Mathlib.Decide.{ℕ_discrete}
use native.Mathlib.Numerals.{add-one}
use native.Mathlib.Omega.{arith}
use borrow.Author.Tests.{eq-eqb, ne_eqb, lt-ltb, le-ltb}
use Rattle.ring.specs.Invertible.{RunsThrough, all_ones, InverseExactlyIf}
use Rattle.ring.specs.Levels.{level_of}
use Rattle.ring.specs.Polynomials.{Poly, InRing, IsInverse, flip, both, bit, parity, over, power, one, mul, weight, has_inverse}
use Rattle.ring.proofs.Inverses.{candidate, candidate_back, inverse_found, test_passes}
use Rattle.ring.proofs.Levels.{sizes, r_odd, r_cycle, powers_run}
use Rattle.ring.proofs.Parity.{flip_false, flip_self, both_comm, both_true, parity_ext, parity-both, parity-split}
use Rattle.ring.proofs.Powers.{square, spread_at}
use Rattle.ring.proofs.Ring
use Rattle.ring.proofs.Walks.{power-doubled, half, half_unit, halved}
use Rattle.ring.proofs.Weights.{weight_ext}

-- whether the weight is odd, as a sum over two elements
odd : ℕ → Poly → Bool
odd r a = over r a (λ i. true)

weight_odd : (r : ℕ) (a : Poly) → weight r a % 2 ≡ bit (odd r a)
unfolding odd over weight parity
weight_odd zero a = refl
weight_odd (suc r) a = rw (both_true (a r)) (step (weight r a) (odd r a) (a r) (weight_odd r a))
  where
    step : (w : ℕ) (s t : Bool) → w % 2 ≡ bit s → (w + bit t) % 2 ≡ bit (flip s t)
    step w true true e = omega arith
    step w true false e = omega arith
    step w false true e = omega arith
    step w false false e = omega arith

over-same : (r : ℕ) (a : Poly) (c : Bool) → over r a (λ i. c) ≡ both (odd r a) c
unfolding odd over
over-same r a c =
    parity_ext r (λ i _. both_comm (a i) c) ∙ parity-both r c a
    ∙ both_comm c (parity r a) ∙ ap (λ (s : Bool). both s c) (parity_ext r (λ i _. sym (both_true (a i))))

weight_all : (r : ℕ) → weight r (all_ones r) ≡ r
unfolding all_ones weight
weight_all r = weight_ext r {b = λ k. true} (λ k below. lt-ltb k r below) ∙ weight_every r
  where
    weight_every : (n : ℕ) → weight n (λ k. true) ≡ n
    weight_every zero = refl
    weight_every (suc n) = rw (weight_every n) (add-one n)

-- 2 n equal terms cancel
parity_even : (n : ℕ) (c : Bool) → parity (n + n) (λ i. c) ≡ false
parity_even n c = parity-split n n (λ i. c) ∙ flip_self (parity n (λ i. c))

module _ (r : ℕ) (pos : 0 < r) where
  odd_mul : (a b : Poly) → odd r (mul r a b) ≡ both (odd r a) (odd r b)
  unfolding odd
  odd_mul a b = Ring.over-mul r pos a b (λ i. true) ∙ over-same r a (over r b (λ j. true))

  odd_one : odd r (one r) ≡ true
  unfolding odd one
  odd_one = Ring.over-power r pos 0 (λ i. true)

  one_first : one r 0 ≡ true
  unfolding one power
  one_first = eq-eqb (0 % r) 0 (zero-mod r)

  one_other : (k : ℕ) → 0 < k → one r k ≡ false
  unfolding one power
  one_other k some = ne_eqb (0 % r) k (λ e. let first = zero-mod r in omega arith)

  all_in : InRing r (all_ones r)
  unfolding all_ones
  all_in k past = le-ltb k r past

  -- each coefficient of a product by all ones is the parity of the other factor
  mul_all : (a : Poly) (k : ℕ) → k < r → mul r a (all_ones r) k ≡ odd r a
  unfolding mul odd all_ones
  mul_all a k below = Ring.over_ext r a (λ i low. row i low)
    where
      row : (i : ℕ) → i < r → over r (all_ones r) (λ j. power r (i + j) k) ≡ true
      row i low =
          ap (λ (m : ℕ). over r (all_ones r) (λ j. power r (m + j) k)) (sym (mod-eq_of_lt low))
          ∙ sym (Ring.over-power r pos i (λ m. over r (all_ones r) (λ j. power r (m + j) k)))
          ∙ Ring.power-mul r pos i (all_ones r) k below ∙ lt-ltb _ r (mod-lt _ pos)

  odd_all : (a : Poly) → odd r a ≡ true → mul r a (all_ones r) ≡ all_ones r
  unfolding all_ones
  odd_all a a_odd = Ring.ring_ext r (Ring.mul_in r pos a (all_ones r)) all_in (λ k below. mul_all a k below ∙ a_odd ∙ sym (lt-ltb k r below))

module _ (r : ℕ) (big : 2 < r) (odd_r : r % 2 ≡ 1) (cycle : 2 ^ (r - 1) % r ≡ 1) (runs : RunsThrough r) where
  pos : 0 < r
  pos = omega arith

  -- a polynomial that is its own square has one coefficient all the way from 1 on
  module _ (e : Poly) (self : mul r e e ≡ e) where
    doubles : (x : ℕ) → e ((2 * x) % r) ≡ e (x % r)
    doubles x =
        ap (λ (p : Poly). p ((2 * x) % r)) (sym self ∙ square r e)
        ∙ spread_at r pos 2 (half r) (half_unit r big odd_r) e ((2 * x) % r) (mod-lt (2 * x) pos)
        ∙ ap e (halved r big odd_r x)

    along : (i : ℕ) → e (2 ^ i % r) ≡ e 1
    along zero = ap e (mod-eq_of_lt (omega arith))
    along (suc i) = ap e (sym (power-doubled r i)) ∙ doubles (2 ^ i) ∙ along i

    constant : (k : ℕ) → 0 < k → k < r → e k ≡ e 1
    constant k some below = let from = runs k some below in ap e (sym from.1) ∙ along from.0

    first : odd r e ≡ e 0
    unfolding odd over parity
    first =
        let whole : 1 + (r / 2 + r / 2) ≡ r = omega arith in
        ap (λ (n : ℕ). parity n (λ i. both (e i) true)) (sym whole) ∙ parity-split 1 (r / 2 + r / 2) (λ i. both (e i) true)
        ∙ ap₂ flip (both_true (e 0))
        (parity_ext (r / 2 + r / 2) (λ i below. both_true (e (1 + i)) ∙ constant (1 + i) (omega arith) (omega arith)) ∙ parity_even (r / 2) (e 1))
        ∙ flip_false (e 0)

  module _ {a : Poly} (ha : InRing r a) where
    -- a^(2^(r-1) - 1), which keeps a
    abbrev unit : Poly
    unit = mul r (candidate r a) a

    unit_self : mul r unit unit ≡ unit
    unit_self =
        Ring.mul_assoc r pos (candidate r a) a unit
        ∙ ap (mul r (candidate r a)) (Ring.mul_comm r a unit ∙ candidate_back r pos cycle ha)

    -- an odd polynomial's unit is 1 at 0, so it is 1 or all ones
    module _ (a_odd : odd r a ≡ true) where
      unit_first : unit 0 ≡ true
      unit_first =
          sym (first unit unit_self) ∙ sym (both_true (odd r unit)) ∙ ap (both (odd r unit)) (sym a_odd)
          ∙ sym (odd_mul r pos unit a) ∙ ap (odd r) (candidate_back r pos cycle ha) ∙ a_odd

      unit_is : (b : Poly) → InRing r b → b 0 ≡ true → ((k : ℕ) → 0 < k → k < r → b k ≡ unit 1) → unit ≡ b
      unit_is b inside start rest = Ring.ring_ext r (Ring.mul_in r pos (candidate r a) a) inside (λ k below. go k below (ℕ_discrete k 0))
        where
          go : (k : ℕ) → k < r → Dec (k ≡ 0) → unit k ≡ b k
          go k below (yes low) = ap unit low ∙ unit_first ∙ sym (ap b low ∙ start)
          go k below (no other) = constant unit unit_self k (omega arith) below ∙ sym (rest k (omega arith) below)

      odd_inverts : (a ≡ all_ones r → ⊥) → has_inverse r a ≡ true
      unfolding one all_ones
      odd_inverts other = go (unit 1) refl
        where
          go : (t : Bool) → unit 1 ≡ t → has_inverse r a ≡ true
          go true e =
              let all : unit ≡ all_ones r = unit_is (all_ones r) (all_in r pos) (lt-ltb 0 r pos) (λ k some below. lt-ltb k r below ∙ sym e) in
              absurd (other (sym (candidate_back r pos cycle ha) ∙ ap (λ (p : Poly). mul r p a) all ∙ Ring.mul_comm r (all_ones r) a ∙ odd_all r pos a a_odd))
          go false e =
              let is : unit ≡ one r = unit_is (one r) (Ring.power_in r pos 0) (one_first r pos) (λ k some below. one_other r pos k some ∙ sym e) in
              (test_passes r pos a (Ring.mul_comm r a (candidate r a) ∙ is)).0

  inverse_odd : {a b : Poly} → IsInverse r a b → odd r a ≡ true
  inverse_odd {a} {b} is = left (odd r a) (odd r b) (sym (odd_mul r pos a b) ∙ ap (odd r) is.product ∙ odd_one r pos)
    where
      left : (s t : Bool) → both s t ≡ true → s ≡ true
      left true t e = refl
      left false t e = e

  -- all ones times anything has the same coefficient at 0 and at 1
  inverse_other : {b : Poly} → IsInverse r (all_ones r) b → ⊥
  inverse_other {b} is =
      let product : mul r b (all_ones r) ≡ one r = Ring.mul_comm r b (all_ones r) ∙ is.product in
      let at : (k : ℕ) → k < r → one r k ≡ odd r b = λ k below. ap (λ (p : Poly). p k) (sym product) ∙ mul_all r pos b k below in
      true≢false (sym (one_first r pos) ∙ at 0 pos ∙ sym (at 1 (omega arith)) ∙ one_other r pos 1 (omega arith))

  pub exactly_if : InverseExactlyIf r
  exactly_if a ha = (
    λ has. let found = inverse_found r pos a has in (
      weight_odd r a ∙ ap bit (inverse_odd found),
      λ all. inverse_other (rw all at found),
    ),
    λ is. odd_inverts ha (odd_of (odd r a) (sym (weight_odd r a) ∙ is.0)) is.1,
  )
    where
      odd_of : (t : Bool) → bit t ≡ 1 → t ≡ true
      odd_of true e = refl
      odd_of false e = absurd (omega arith)

pub has_inverse_exactly_if : (level : ℕ) → InverseExactlyIf (level_of level).r
has_inverse_exactly_if level =
    exactly_if (level_of level).r (omega (arith, (sizes level).r_least)) (r_odd level) (r_cycle level) (powers_run level)

-- an odd weight below r is enough
pub light_inverts : (level : ℕ) {a : Poly} → InRing (level_of level).r a → weight (level_of level).r a % 2 ≡ 1
    → weight (level_of level).r a < (level_of level).r → has_inverse (level_of level).r a ≡ true
light_inverts level {a} ha is_odd light =
    (has_inverse_exactly_if level a ha).1 (is_odd, λ all. let whole = ap (weight (level_of level).r) all ∙ weight_all (level_of level).r in omega arith)
