-- The comparison of two lists. Assumes nothing.
use mathlib.Core.Path.{◌≡◌, refl, ap₂}
use mathlib.Core.Bool.{Bool, true, false, false≢true}
use mathlib.Core.List.{List, [], ◌∷◌}
use Prim.Native.Nat.{ℕ}
use lib.Dec.{eqb}
use borrow.Author.Tests.{eqb-true, eq-eqb}
use Rattle.ring.specs.Polynomials.{Tells}
use Rattle.ring.proofs.Bools.{both_true}
use Rattle.maps.specs.Writes.{equal}

pub equal_true : (xs ys : List ℕ) → equal xs ys ≡ true → xs ≡ ys
unfolding equal
equal_true [] [] e = refl
equal_true [] (y ∷ ys) e = absurd (false≢true e)
equal_true (x ∷ xs) [] e = absurd (false≢true e)
equal_true (x ∷ xs) (y ∷ ys) e =
    let both = both_true (eqb x y) (equal xs ys) e in
    ap₂ ◌∷◌ (eqb-true x y both.0) (equal_true xs ys both.1)

equal_own : (xs : List ℕ) → equal xs xs ≡ true
unfolding equal
equal_own [] = refl
equal_own (x ∷ xs) = rw (eq-eqb x x refl) (equal_own xs)

pub equal-same : {xs ys : List ℕ} → xs ≡ ys → equal xs ys ≡ true
equal-same {xs} {ys} e = rw e (equal_own ys)

-- a test that tells whether two lists are the same is this comparison
pub told : (t : Bool) (xs ys : List ℕ) → Tells t (xs ≡ ys) → equal xs ys ≡ t
told true xs ys tells = equal-same (tells.holds refl)
told false xs ys tells = go (equal xs ys) refl
  where
    go : (b : Bool) → equal xs ys ≡ b → b ≡ false
    go true e = absurd (tells.fails refl (equal_true xs ys e))
    go false e = refl
