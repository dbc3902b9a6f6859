-- The laws of the ring, over every r: sums over the exponents of a polynomial, sum and product. Assumes nothing.
use mathlib.Core.Path.{◌≡◌, refl, sym, ap, ap₂, fun_ext, ◌∙◌}
use mathlib.Core.Bool.{Bool, false}
use mathlib.Core.List.{List, [], ◌∷◌}
use Prim.Native.Nat.{ℕ, ◌+◌, ◌-◌, ◌%◌, ◌≤◌, ◌<◌}
use native.Mathlib.Nat
use native.Mathlib.Nat.{mod-lt, mod-eq_of_lt, mod-add-mod, add-mod-mod, zero-mod, zero-add, mod-eq-sub-mod}
use mathlib.Core.Logic.{◌↔◌, ◌⊎◌, inl, inr, ⊎_elim}
use native.Mathlib.Decide.{dec_lt}
use native.Mathlib.Omega.{arith}
use lib.Dec.{eqb}
use borrow.Author.Tests.{ne_eqb}
use Rattle.ring.specs.Polynomials.{Poly, InRing, flip, both, parity, over, power, one, add, mul, terms}
use Rattle.ring.proofs.Parity.{flip_comm, flip_assoc, flip_self, both_false, both_assoc, both_comm, flip-both, eqb_same, parity_ext, parity_false, parity-flip, parity-both, parity_swap, parity_miss, parity_pick}

-- two polynomials of the ring are equal where they are below r
pub ring_ext : (r : ℕ) {a b : Poly} → InRing r a → InRing r b → ((k : ℕ) → k < r → a k ≡ b k) → a ≡ b
ring_ext r {a} {b} ha hb h = fun_ext (λ k. go k (dec_lt k r))
  where
    go : (k : ℕ) → Dec (k < r) → a k ≡ b k
    go k (yes below) = h k below
    go k (no past) = ha k (omega arith) ∙ sym (hb k (omega arith))

-- the sum
pub add_comm : (a b : Poly) → add a b ≡ add b a
unfolding add
add_comm a b = fun_ext (λ k. flip_comm (a k) (b k))

pub add_assoc : (a b c : Poly) → add (add a b) c ≡ add a (add b c)
unfolding add
add_assoc a b c = fun_ext (λ k. flip_assoc (a k) (b k) (c k))

pub add_cancel : (a b : Poly) → add a (add a b) ≡ b
unfolding add
add_cancel a b = fun_ext (λ k. sym (flip_assoc (a k) (a k) (b k)) ∙ ap (λ (s : Bool). flip s (b k)) (flip_self (a k)))

-- sums over the exponents of a polynomial
module _ (r : ℕ) where
  pub over_ext : (a : Poly) {f g : ℕ → Bool} → ((i : ℕ) → i < r → f i ≡ g i) → over r a f ≡ over r a g
  unfolding over
  over_ext a h = parity_ext r (λ i below. ap (both (a i)) (h i below))

  pub over_false : (a : Poly) → over r a (λ i. false) ≡ false
  unfolding over
  over_false a = parity_ext r (λ i below. both_false (a i)) ∙ parity_false r

  pub over_add : (a b : Poly) (f : ℕ → Bool) → over r (add a b) f ≡ flip (over r a f) (over r b f)
  unfolding over add
  over_add a b f =
      parity_ext r (λ i below. flip-both (a i) (b i) (f i)) ∙ parity-flip r (λ i. both (a i) (f i)) (λ i. both (b i) (f i))

  -- over the exponents of a sum of polynomials b i, one for each exponent i of a
  pub over-over : (a : Poly) (b : ℕ → Poly) (f : ℕ → Bool)
      → over r (λ k. over r a (λ i. b i k)) f ≡ over r a (λ i. over r (b i) f)
  unfolding over
  over-over a b f =
      parity_ext r (λ k below. inside k) ∙ parity_swap r r (λ k i. both (a i) (both (b i k) (f k)))
      ∙ parity_ext r (λ i below. parity-both r (a i) (λ k. both (b i k) (f k)))
    where
      inside : (k : ℕ) → both (parity r (λ i. both (a i) (b i k))) (f k) ≡ parity r (λ i. both (a i) (both (b i k) (f k)))
      inside k =
          both_comm (parity r (λ i. both (a i) (b i k))) (f k) ∙ sym (parity-both r (f k) (λ i. both (a i) (b i k)))
          ∙ parity_ext r (λ i below. both_comm (f k) (both (a i) (b i k)) ∙ both_assoc (a i) (b i k) (f k))

  pub over_comm : (a b : Poly) → over r a b ≡ over r b a
  unfolding over
  over_comm a b = parity_ext r (λ i below. both_comm (a i) (b i))

  pub over_swap : (a b : Poly) (f : ℕ → ℕ → Bool)
      → over r a (λ i. over r b (λ j. f i j)) ≡ over r b (λ j. over r a (λ i. f i j))
  over_swap a b f =
      over_ext a (λ i below. over_comm b (f i)) ∙ sym (over-over a f b) ∙ over_comm (λ j. over r a (λ i. f i j)) b

  -- sum and product
  pub mul_comm : (a b : Poly) → mul r a b ≡ mul r b a
  unfolding mul
  mul_comm a b =
      fun_ext (λ k. over_swap a b (λ i j. power r (i + j) k)
      ∙ over_ext b (λ j _. over_ext a (λ i _. ap (λ (n : ℕ). power r n k) (Nat.add_comm i j))))

  pub add-mul : (a b c : Poly) → mul r (add a b) c ≡ add (mul r a c) (mul r b c)
  unfolding mul add
  add-mul a b c = fun_ext (λ k. over_add a b (λ i. over r c (λ j. power r (i + j) k)))

  pub mul-add : (a b c : Poly) → mul r a (add b c) ≡ add (mul r a b) (mul r a c)
  mul-add a b c = mul_comm a (add b c) ∙ add-mul b c a ∙ ap₂ add (mul_comm b a) (mul_comm c a)

  pub add_in : {a b : Poly} → InRing r a → InRing r b → InRing r (add a b)
  unfolding add
  add_in {a} {b} ha hb k past = ap₂ flip (ha k past) (hb k past)

-- X^m and X^n are one where m and n are equal modulo r
pub power_cong : (r m n : ℕ) → m % r ≡ n % r → (k : ℕ) → power r m k ≡ power r n k
unfolding power
power_cong r m n e k = ap (λ (p : ℕ). eqb p k) e

-- a number below 2 r is at most one r above its remainder
wrap : (r n : ℕ) → n < r + r → ((n < r) × (n % r ≡ n)) ⊎ ((r ≤ n) × (n % r + r ≡ n))
wrap r n h = go (dec_lt n r)
  where
    go : Dec (n < r) → ((n < r) × (n % r ≡ n)) ⊎ ((r ≤ n) × (n % r + r ≡ n))
    go (yes below) = inl (below, mod-eq_of_lt below)
    go (no past) =
        let over : r ≤ n = omega arith in
        let rest : n % r ≡ n - r = mod-eq-sub-mod over ∙ mod-eq_of_lt (omega arith) in
        inr (over, omega arith)

module _ (r : ℕ) (pos : 0 < r) where
  pub power_in : (i : ℕ) → InRing r (power r i)
  unfolding power
  power_in i k past = ne_eqb (i % r) k (λ e. let small : i % r < r = mod-lt i pos in omega arith)

  pub terms_in : (exponents : List ℕ) → InRing r (terms r exponents)
  unfolding terms
  terms_in [] = λ k past. refl
  terms_in (i ∷ rest) = add_in r (power_in i) (terms_in rest)

  pub over-power : (i : ℕ) (f : ℕ → Bool) → over r (power r i) f ≡ f (i % r)
  unfolding over power
  over-power i f =
      over_comm r (power r i) f ∙ parity_ext r (λ j below. ap (both (f j)) (eqb_same (i % r) j j (i % r) sym sym))
      ∙ parity_pick r f (i % r) (mod-lt i pos)

  -- a polynomial is the sum of its powers of X
  pub over_powers : {a : Poly} → InRing r a → (k : ℕ) → over r a (λ i. power r i k) ≡ a k
  unfolding over power
  over_powers {a} ha k =
      parity_ext r (λ i below. ap (λ (n : ℕ). both (a i) (eqb n k)) (mod-eq_of_lt below)) ∙ go (dec_lt k r)
    where
      go : Dec (k < r) → parity r (λ i. both (a i) (eqb i k)) ≡ a k
      go (yes below) = parity_pick r a k below
      go (no past) = parity_miss r a k (omega arith) ∙ sym (ha k (omega arith))

  pub over-mul : (a b : Poly) (f : ℕ → Bool) → over r (mul r a b) f ≡ over r a (λ i. over r b (λ j. f ((i + j) % r)))
  unfolding mul
  over-mul a b f =
      over-over r a (λ i k. over r b (λ j. power r (i + j) k)) f
      ∙ over_ext r a (λ i _. over-over r b (λ j. power r (i + j)) f ∙ over_ext r b (λ j _. over-power (i + j) f))

  pub mul_assoc : (a b c : Poly) → mul r (mul r a b) c ≡ mul r a (mul r b c)
  unfolding mul
  mul_assoc a b c = fun_ext (λ k. left k ∙ sym (right k))
    where
      left : (k : ℕ) → mul r (mul r a b) c k ≡ over r a (λ i. over r b (λ j. over r c (λ l. power r (i + j + l) k)))
      left k =
          over-mul a b (λ m. over r c (λ l. power r (m + l) k))
          ∙ over_ext r a (λ i _. over_ext r b (λ j _. over_ext r c (λ l _.
          power_cong r ((i + j) % r + l) (i + j + l) (mod-add-mod (i + j) r l) k)))

      right : (k : ℕ) → mul r a (mul r b c) k ≡ over r a (λ i. over r b (λ j. over r c (λ l. power r (i + j + l) k)))
      right k =
          over_ext r a (λ i _. over-mul b c (λ m. power r (i + m) k)
          ∙ over_ext r b (λ j _. over_ext r c (λ l _.
          power_cong r (i + (j + l) % r) (i + j + l) (rw (Nat.add_assoc i j l) (add-mod-mod i (j + l) r)) k)))

  pub mul_in : (a b : Poly) → InRing r (mul r a b)
  unfolding mul
  mul_in a b k past =
      over_ext r a (λ i _. over_ext r b (λ j _. power_in (i + j) k past) ∙ over_false r b) ∙ over_false r a

  pub one-over : (a : Poly) (k : ℕ) → mul r (one r) a k ≡ over r a (λ i. power r i k)
  unfolding mul one
  one-over a k =
      over-power 0 (λ i. over r a (λ j. power r (i + j) k)) ∙ over_ext r a (λ j _. rw (zero-mod r, zero-add j))

  pub one-mul : {a : Poly} → InRing r a → mul r (one r) a ≡ a
  one-mul {a} ha = fun_ext (λ k. one-over a k ∙ over_powers ha k)

  -- a product by X^i is a rotation
  pub power-mul : (i : ℕ) (a : Poly) (k : ℕ) → k < r → mul r (power r i) a k ≡ a ((k + r - i % r) % r)
  unfolding mul power over
  power-mul i a k below =
      over-power i (λ m. over r a (λ j. power r (m + j) k))
      ∙ over_ext r a (λ j low. eqb_same ((i % r + j) % r) k j ((k + r - i % r) % r) (turn j low).0 (turn j low).1)
      ∙ parity_pick r a ((k + r - i % r) % r) (mod-lt (k + r - i % r) pos)
    where
      turn : (j : ℕ) → j < r → ((i % r + j) % r ≡ k) ↔ (j ≡ (k + r - i % r) % r)
      turn j low =
          let small : i % r < r = mod-lt i pos in
          let there = wrap r (i % r + j) (omega arith) in
          let back = wrap r (k + r - i % r) (omega arith) in
          ⊎_elim (λ u. ⊎_elim (λ v. omega arith) (λ v. omega arith) back)
          (λ u. ⊎_elim (λ v. omega arith) (λ v. omega arith) back) there
