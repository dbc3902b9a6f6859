-- Positions below r, moved on one after the other. Assumes nothing.
use mathlib.Core.Path.{◌≡◌, sym, ap₂, ◌∙◌}
use mathlib.Core.Bool.{true, true≢false}
use mathlib.Core.List.{List, [], ◌∷◌, ◌++◌, map, map-append}
use Prim.Native.Nat.{ℕ, ◌+◌, ◌%◌, ◌<◌}
use native.Mathlib.Decide.{dec_lt}
use native.Mathlib.Numerals.{add-one}
use native.Mathlib.Omega.{arith}
use lib.ListN.{length, get_or, set, take}
use lib.Seq.{take-suc, take-suc-set}
use Rattle.ring.specs.Polynomials.{InRing, power, listed, support}
use Rattle.ring.proofs.Ring.{mul_in}
use Rattle.ring.proofs.Rotations.{support-turned}
use Rattle.exchange.proofs.error.Laws.{listed_at}

-- what a polynomial of the ring lists is below r
pub listed_below : (r : ℕ) (ps : List ℕ) → InRing r (support ps) → (p : ℕ) → listed p ps ≡ true → p < r
unfolding support
listed_below r ps inside p is = go (dec_lt p r)
  where
    go : Dec (p < r) → p < r
    go (yes below) = below
    go (no past) = absurd (true≢false (sym is ∙ inside p (omega arith)))

pub at_below : (r : ℕ) (ps : List ℕ) → InRing r (support ps) → (i : ℕ) → i < length ps → get_or ps i 0 < r
at_below r ps inside i more = listed_below r ps inside (get_or ps i 0) (listed_at ps i more)

module _ (r k : ℕ) where
  abbrev pub on : ℕ → ℕ
  on p = (p + k) % r

  -- one position more
  pub moved_more : (h list : List ℕ) (i v : ℕ) → i < length h → i < length list → v ≡ (get_or h i 0 + k) % r → take i list ≡ map on (take i h)
      → take (i + 1) (set list i v) ≡ map on (take (i + 1) h)
  moved_more h list i v more room is before =
      rw (add-one i, take-suc h i 0 more)
      (take-suc-set list i v room ∙ ap₂ (λ (xs : List ℕ) (x : ℕ). xs ++ (x ∷ [])) before is ∙ sym (map-append on (take i h) (get_or h i 0 ∷ [])))

  pub moved_below : 0 < r → (h : List ℕ) → InRing r (support h) → (p : ℕ) → listed p (map on h) ≡ true → p < r
  moved_below pos h inside = listed_below r (map on h) (rw (support-turned r pos k h inside) (mul_in r pos (power r k) (support h)))
