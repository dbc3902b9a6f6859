-- The exponents of a polynomial, as terms, are the polynomial. Assumes nothing.
use mathlib.Core.Path.{◌≡◌, refl, sym, ap, ◌∙◌, fun_ext}
use mathlib.Core.Bool.{Bool, true, false, ◌&&◌, and-true, and-false}
use mathlib.Core.List.{List, [], ◌∷◌, ◌++◌, append-nil}
use Prim.Native.Nat.{ℕ, zero, suc, ◌≤◌, ◌<◌, zero-le}
use native.Mathlib.Decide.{dec_lt, ℕ_discrete}
use native.Mathlib.Nat.{mod-eq_of_lt}
use native.Mathlib.Omega.{arith}
use borrow.Author.Tests.{lt-ltb, le-ltb, eq-eqb, ne_eqb}
use lib.Dec.{ltb, eqb}
use lib.ListN.{get_or}
use Rattle.ring.specs.Polynomials.{Poly, InRing, flip, power, add, terms, rising}
use Rattle.ring.proofs.Parity.{flip_false}
use Rattle.ring.proofs.sparse.Laws.{terms_snoc}

below_append : (b : ℕ) (xs ys : List ℕ) → ((i : ℕ) → get_or xs i 0 < b) → ((i : ℕ) → get_or ys i 0 < b) → (i : ℕ) → get_or (xs ++ ys) i 0 < b
below_append b [] ys first second i = second i
below_append b (x ∷ xs) ys first second zero = first zero
below_append b (x ∷ xs) ys first second (suc i) = below_append b xs ys (λ j. first (suc j)) second i

-- each of them is below r
pub rising_below : (n : ℕ) (a : Poly) (i : ℕ) → 0 < n → get_or (rising n a) i 0 < n
unfolding rising
rising_below zero a i pos = pos
rising_below (suc n) a i pos = below_append (suc n) (rising n a) _ (first (dec_lt 0 n) (λ j more. rising_below n a j more)) (last (a n)) i
  where
    nothing : (j : ℕ) → get_or (rising 0 a) j 0 < suc 0
    nothing j = omega arith

    first : Dec (0 < n) → ((j : ℕ) → 0 < n → get_or (rising n a) j 0 < n) → (j : ℕ) → get_or (rising n a) j 0 < suc n
    first (yes more) before j = let below = before j more in omega arith
    first (no none) before j = let empty : n ≡ 0 = omega arith in rw empty (nothing j)

    last : (t : Bool) (j : ℕ) → get_or (elim t as (λ _. List ℕ) [ true ↦ n ∷ [] | false ↦ [] ]) j 0 < suc n
    last true zero = omega arith
    last true (suc j) = omega arith
    last false j = omega arith

-- those below n
terms_upto : (r : ℕ) (a : Poly) (n : ℕ) → n ≤ r → (k : ℕ) → terms r (rising n a) k ≡ ltb k n && a k
unfolding terms rising add power
terms_upto r a zero most k = rw (le-ltb k 0 zero-le)
terms_upto r a (suc n) most k = go (a n) refl (terms_upto r a n (omega arith) k)
  where
    -- n comes in
    more : (t : Bool) → a n ≡ t → Dec (k < n) → Dec (k ≡ n) → flip (ltb k n && a k) (eqb n k && t) ≡ ltb k (suc n) && a k
    more t is (yes below) same =
        let less : k < suc n = omega arith in
        rw (lt-ltb k n below, lt-ltb k (suc n) less, ne_eqb n k (λ e. omega arith)) (flip_false (a k))
    more t is (no past) (yes here) =
        let less : k < suc n = omega arith in
        let end : n ≤ k = omega arith in
        rw (le-ltb k n end, lt-ltb k (suc n) less, eq-eqb n k (sym here)) (sym (ap a here ∙ is))
    more t is (no past) (no other) =
        let end : n ≤ k = omega arith in
        let beyond : suc n ≤ k = omega arith in
        rw (le-ltb k n end, le-ltb k (suc n) beyond, ne_eqb n k (λ e. other (sym e)))

    go : (t : Bool) → a n ≡ t → terms r (rising n a) k ≡ ltb k n && a k → terms r (rising n a ++ (elim t as (λ _. List ℕ) [ true ↦ n ∷ [] | false ↦ [] ])) k ≡ ltb k (suc n) && a k
    go true is before =
        ap (λ (f : Poly). f k) (terms_snoc r (rising n a) n)
        ∙ rw (before, mod-eq_of_lt {n = n} {m = r} (omega arith)) (ap (λ (b : Bool). flip (ltb k n && a k) b) (sym (and-true (eqb n k))) ∙ more true is (dec_lt k n) (ℕ_discrete k n))
    go false is before =
        ap (λ (ps : List ℕ). terms r ps k) (append-nil (rising n a)) ∙ before ∙ sym (flip_false (ltb k n && a k))
        ∙ ap (λ (b : Bool). flip (ltb k n && a k) b) (sym (and-false (eqb n k))) ∙ more false is (dec_lt k n) (ℕ_discrete k n)

-- a polynomial of the ring has nothing from r on, and is given by its exponents
pub bounded : (r : ℕ) {a : Poly} → InRing r a → (λ k. ltb k r && a k) ≡ a
bounded r {a} inside = fun_ext (λ k. go k (dec_lt k r))
  where
    go : (k : ℕ) → Dec (k < r) → ltb k r && a k ≡ a k
    go k (yes below) = rw (lt-ltb k r below)
    go k (no past) =
        let end : r ≤ k = omega arith in rw (le-ltb k r end) (sym (inside k end))

pub terms-rising : (r : ℕ) {a : Poly} → InRing r a → terms r (rising r a) ≡ a
terms-rising r {a} inside = fun_ext (terms_upto r a r (omega arith)) ∙ bounded r inside
