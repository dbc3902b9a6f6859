-- Products by a power of X: they turn a polynomial round, keep its weight, add up, and take an inverse along.
-- Assumes nothing.
use mathlib.Core.Path.{◌≡◌, refl, sym, ap, ap₂, ◌∙◌, fun_ext}
use mathlib.Core.Bool.{Bool, true, false, ◌||◌, true≢false}
use mathlib.Core.List.{List, [], ◌∷◌, map}
use Prim.Native.Nat.{ℕ, ◌+◌, ◌-◌, ◌%◌, ◌≤◌, ◌<◌}
use native.Mathlib.Nat.{add_comm, zero-mod, mod-lt, mod-eq_of_lt, mod-mod, mod_self, mod-add-mod, add-mod-mod, add-mod_right}
use native.Mathlib.Decide.{dec_lt}
use native.Mathlib.Omega.{arith}
use borrow.Author.Tests.{eq-eqb, ne_eqb}
use lib.Dec.{eqb}
use Rattle.ring.specs.Polynomials.{Poly, InRing, IsInverse, over, power, one, mul, weight, listed, support, has_inverse, inverse_of}
use Rattle.ring.proofs.Bools.{both_false}
use Rattle.ring.proofs.Inverses.{inverse_found, inverse_exists, inverse_is, no_inverse}
use Rattle.ring.proofs.Parity.{eqb_same}
use Rattle.ring.proofs.Ring
use Rattle.ring.proofs.Weights.{weight_ext, weight-add}

-- over a circle counting begins anywhere: the first k places read from r - k on, the others from 0 on
pub weight-turn : (r k : ℕ) → k < r → (g : ℕ → Bool) → weight r (λ p. g ((p + r - k) % r)) ≡ weight r g
weight-turn r k below g =
    let rest : ℕ = r - k in
    let front : k + rest ≡ r = omega arith in
    let back : rest + k ≡ r = omega arith in
    ap (λ (n : ℕ). weight n (λ p. g ((p + r - k) % r))) (sym front) ∙ weight-add k rest (λ p. g ((p + r - k) % r))
    ∙ ap₂ ◌+◌
    (weight_ext k {b = λ p. g (rest + p)} (λ p low.
    let at : p + r - k ≡ rest + p = omega arith in
    let within : rest + p < r = omega arith in
    ap g (ap (λ (n : ℕ). n % r) at ∙ mod-eq_of_lt within)))
    (weight_ext rest {b = g} (λ p low.
    let at : k + p + r - k ≡ p + r = omega arith in
    let within : p < r = omega arith in
    ap g (ap (λ (n : ℕ). n % r) at ∙ add-mod_right p r ∙ mod-eq_of_lt within)))
    ∙ add_comm (weight k (λ p. g (rest + p))) (weight rest g)
    ∙ sym (weight-add rest k g) ∙ ap (λ (n : ℕ). weight n g) back

-- a position of a polynomial of the ring is below r
head_below : {r : ℕ} (p : ℕ) (ps : List ℕ) → InRing r (support (p ∷ ps)) → p < r
unfolding support listed
head_below {r} p ps inside = go (dec_lt p r)
  where
    go : Dec (p < r) → p < r
    go (yes below) = below
    go (no past) = absurd (true≢false (sym (eq-eqb p p refl) ∙ (both_false (eqb p p) (listed p ps) (inside p (omega arith))).0))

module _ (r : ℕ) (pos : 0 < r) where
  -- (x y) (z w) = (x z) (y w)
  swap : (x y z w : Poly) → mul r (mul r x y) (mul r z w) ≡ mul r (mul r x z) (mul r y w)
  swap x y z w =
      Ring.mul_assoc r pos x y (mul r z w)
      ∙ ap (mul r x) (sym (Ring.mul_assoc r pos y z w) ∙ ap (λ (u : Poly). mul r u w) (Ring.mul_comm r y z) ∙ Ring.mul_assoc r pos z y w)
      ∙ sym (Ring.mul_assoc r pos x z (mul r y w))

  pub weight-turned : (k : ℕ) (a : Poly) → weight r (mul r (power r k) a) ≡ weight r a
  weight-turned k a =
      weight_ext r {b = λ p. a ((p + r - k % r) % r)} (λ p below. Ring.power-mul r pos k a p below)
      ∙ weight-turn r (k % r) (mod-lt k pos) a

  -- exponents add up
  pub power-power : (i j : ℕ) → mul r (power r i) (power r j) ≡ power r (i + j)
  unfolding mul
  power-power i j =
      fun_ext (λ k. Ring.over-power r pos i (λ m. over r (power r j) (λ n. power r (m + n) k))
      ∙ Ring.over-power r pos j (λ n. power r (i % r + n) k)
      ∙ Ring.power_cong r (i % r + j % r) (i + j) (mod-add-mod i r (j % r) ∙ add-mod-mod i j r) k)

  power-mod : (i : ℕ) → power r (i % r) ≡ power r i
  power-mod i = fun_ext (λ k. Ring.power_cong r (i % r) i (mod-mod i r) k)

  pub turned-turned : (k l : ℕ) (a : Poly) → mul r (power r l) (mul r (power r k) a) ≡ mul r (power r ((k + l) % r)) a
  turned-turned k l a =
      sym (Ring.mul_assoc r pos (power r l) (power r k) a)
      ∙ ap (λ (x : Poly). mul r x a) (power-power l k ∙ ap (power r) (add_comm l k) ∙ sym (power-mod (k + l)))

  -- X^k X^(r - k) = 1
  power_back : (k : ℕ) → k ≤ r → mul r (power r k) (power r (r - k)) ≡ one r
  unfolding one
  power_back k within =
      let whole : k + (r - k) ≡ r = omega arith in
      power-power k (r - k) ∙ ap (power r) whole ∙ fun_ext (λ i. Ring.power_cong r r 0 (mod_self r ∙ sym (zero-mod r)) i)

  -- where g inverts a, X^(r - k) g inverts X^k a; and an inverse of X^k a makes one of a
  module _ (k : ℕ) where
    turned_inverse : k ≤ r → {a g : Poly} → IsInverse r a g → IsInverse r (mul r (power r k) a) (mul r (power r (r - k)) g)
    unfolding one
    turned_inverse within {a} {g} is =
        record {
          inside = Ring.mul_in r pos (power r (r - k)) g;
          product = swap (power r k) a (power r (r - k)) g ∙ ap₂ (mul r) (power_back k within) is.product ∙ Ring.one-mul r pos (Ring.power_in r pos 0);
        }

    inverse_turned : {a g : Poly} → IsInverse r (mul r (power r k) a) g → IsInverse r a (mul r (power r k) g)
    inverse_turned {a} {g} is =
        record {
          inside = Ring.mul_in r pos (power r k) g;
          product = sym (Ring.mul_assoc r pos a (power r k) g) ∙ ap (λ (x : Poly). mul r x g) (Ring.mul_comm r a (power r k)) ∙ is.product;
        }

    pub turned_has : k ≤ r → (a : Poly) → has_inverse r (mul r (power r k) a) ≡ has_inverse r a
    turned_has within a = go (has_inverse r a) refl (has_inverse r (mul r (power r k) a)) refl
      where
        go : (t : Bool) → has_inverse r a ≡ t → (t' : Bool) → has_inverse r (mul r (power r k) a) ≡ t' → has_inverse r (mul r (power r k) a) ≡ has_inverse r a
        go true e t' e' = inverse_exists r pos (turned_inverse within (inverse_found r pos a e)) ∙ sym e
        go false e true e' = absurd (no_inverse r pos e (inverse_turned (inverse_found r pos (mul r (power r k) a) e')))
        go false e false e' = e' ∙ sym e

    -- so a quotient stays
    pub turned_quotient : k ≤ r → (a b : Poly) → has_inverse r a ≡ true
        → mul r (mul r (power r k) b) (inverse_of r (mul r (power r k) a)) ≡ mul r b (inverse_of r a)
    turned_quotient within a b has =
        let found = inverse_found r pos a has in
        ap (mul r (mul r (power r k) b)) (inverse_is r pos (turned_inverse within found)) ∙ swap (power r k) b (power r (r - k)) (inverse_of r a)
        ∙ ap (λ (x : Poly). mul r x (mul r b (inverse_of r a))) (power_back k within) ∙ Ring.one-mul r pos (Ring.mul_in r pos b (inverse_of r a))

  -- positions below r, each moved on by k, are those of X^k times their polynomial
  module _ (k : ℕ) where
    moved : ℕ → ℕ
    moved p = (p + k) % r

    -- one of them is X^k X^p
    moved_one : (p j : ℕ) → p < r → j < r → eqb j (moved p) ≡ eqb ((j + r - k % r) % r) p
    unfolding moved power
    moved_one p j low below =
        eqb_same j ((p + k) % r) ((p + k) % r) j sym sym
        ∙ ap (λ (x : Poly). x j) (sym (power-power k p ∙ ap (power r) (add_comm k p)))
        ∙ Ring.power-mul r pos k (power r p) j below
        ∙ ap (λ (n : ℕ). eqb n ((j + r - k % r) % r)) (mod-eq_of_lt low)
        ∙ eqb_same p ((j + r - k % r) % r) ((j + r - k % r) % r) p sym sym

    moved_in : (ps : List ℕ) → InRing r (support (map moved ps))
    unfolding support listed moved
    moved_in [] j past = refl
    moved_in (p ∷ ps) j past = rw (ne_eqb j ((p + k) % r) (λ e. let low : (p + k) % r < r = mod-lt (p + k) pos in omega arith)) (moved_in ps j past)

    moved_at : (ps : List ℕ) → InRing r (support ps) → (j : ℕ) → j < r → support (map moved ps) j ≡ support ps ((j + r - k % r) % r)
    unfolding support listed
    moved_at [] inside j below = refl
    moved_at (p ∷ ps) inside j below =
        ap₂ ◌||◌ (moved_one p j (head_below p ps inside) below) (moved_at ps (λ i past. (both_false (eqb i p) (listed i ps) (inside i past)).1) j below)

    pub support-turned : (ps : List ℕ) → InRing r (support ps) → support (map (λ p. (p + k) % r) ps) ≡ mul r (power r k) (support ps)
    unfolding moved
    support-turned ps inside =
        Ring.ring_ext r (moved_in ps) (Ring.mul_in r pos (power r k) (support ps))
        (λ j below. moved_at ps inside j below ∙ sym (Ring.power-mul r pos k (support ps) j below))
