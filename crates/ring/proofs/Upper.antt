-- The upper half of a list of positions: one more, and the polynomial that it stands for. Assumes nothing.
use mathlib.Core.Path.{◌≡◌, refl, sym, ap, fun_ext}
use mathlib.Core.Bool.{Bool, true, false, ◌&&◌, ◌||◌, and-false, or-true}
use mathlib.Core.List.{List, [], ◌∷◌, ◌++◌}
use Prim.Native.Nat.{ℕ, ◌+◌, ◌-◌, ◌%◌, ◌≤◌, ◌<◌}
use native.Mathlib.Nat.{mod-eq_of_lt}
use native.Mathlib.Decide.{dec_lt, ℕ_discrete}
use native.Mathlib.Omega.{arith}
use borrow.Author.Tests.{eq-eqb, ne_eqb, le-leb, lt-leb, lt-ltb}
use lib.Dec.{eqb, leb, ltb}
use Rattle.ring.specs.Polynomials.{Poly, add, power, terms, listed}
use Rattle.ring.specs.inner.Upper.{upper}

-- a position from r on is kept, one below r is not
module _ (r p : ℕ) (rest : List ℕ) where
  pub upper_high : r ≤ p → upper r (p ∷ rest) ≡ (p - r) ∷ upper r rest
  unfolding upper
  upper_high high = rw (le-leb r p high, upper)

  pub upper_low : p < r → upper r (p ∷ rest) ≡ upper r rest
  unfolding upper
  upper_low low = rw (lt-leb r p low, upper)

pub upper_snoc : (r : ℕ) (list : List ℕ) (p : ℕ) → upper r (list ++ (p ∷ [])) ≡ upper r list ++ upper r (p ∷ [])
unfolding upper
upper_snoc r [] p = refl
upper_snoc r (q ∷ list) p = go (leb r q) (upper_snoc r list p)
  where
    go : (t : Bool) → upper r (list ++ (p ∷ [])) ≡ upper r list ++ upper r (p ∷ [])
        → (elim t [ true ↦ (q - r) ∷ upper r (list ++ (p ∷ [])) | false ↦ upper r (list ++ (p ∷ [])) ])
        ≡ (elim t [ true ↦ (q - r) ∷ upper r list | false ↦ upper r list ]) ++ upper r (p ∷ [])
    go true before = ap (λ (l : List ℕ). (q - r) ∷ l) before
    go false before = before

-- no position is listed twice
abbrev pub Distinct : List ℕ → Type 0
Distinct [] = Unit
Distinct (x ∷ list) = (listed x list ≡ false) × Distinct list

-- positions below 2r, each once: the sum of the powers that the upper ones stand for has just them for exponents
pub upper-terms : (r : ℕ) (list : List ℕ) → Distinct list → ((p : ℕ) → listed p list ≡ true → p < r + r)
    → terms r (upper r list) ≡ (λ k. ltb k r && listed (r + k) list)
unfolding upper terms listed add power
upper-terms r [] apart within = fun_ext (λ k. sym (and-false (ltb k r)))
upper-terms r (p ∷ rest) apart within =
    fun_ext (λ k. go k (dec_lt p r) (ℕ_discrete (r + k) p)
    (ap (λ (a : Poly). a k) (upper-terms r rest apart.1 (λ q e. within q (rw e (or-true (eqb q p)))))))
  where
    go : (k : ℕ) → Dec (p < r) → Dec (r + k ≡ p) → terms r (upper r rest) k ≡ ltb k r && listed (r + k) rest
        → terms r (upper r (p ∷ rest)) k ≡ ltb k r && (eqb (r + k) p || listed (r + k) rest)
    go k (yes low) here before = rw (upper_low r p rest low, ne_eqb (r + k) p (λ e. omega arith)) before
    go k (no high) (yes here) before =
        let below : p < r + r = within p (rw (eq-eqb p p refl)) in
        let exponent : p - r ≡ k = omega arith in
        let reduced : (p - r) % r ≡ p - r = mod-eq_of_lt (omega arith) in
        rw (upper_high r p rest (omega arith), before, reduced, eq-eqb (p - r) k exponent, here)
        (rw (apart.0, eq-eqb p p refl, lt-ltb k r (omega arith)))
    go k (no high) (no there) before =
        let below : p < r + r = within p (rw (eq-eqb p p refl)) in
        let reduced : (p - r) % r ≡ p - r = mod-eq_of_lt (omega arith) in
        rw (upper_high r p rest (omega arith), before, reduced, ne_eqb (p - r) k (λ e. omega arith), ne_eqb (r + k) p there)
