-- Two errors are the same in every bit exactly if no bit differs; a choice by a test. Assumes nothing.
use mathlib.Core.Path.{◌≡◌, refl, ap}
use mathlib.Core.Bool.{Bool, true, false, not, ◌&&◌}
use Prim.Native.Nat.{ℕ, zero, suc, ◌+◌}
use native.Mathlib.Nat.{zero-add}
use native.Mathlib.Omega.{arith}
use lib.Dec.{eqb}
use borrow.Author.Tests.{ne_eqb}
use Rattle.ring.specs.Polynomials.{Poly, bit, flip, both, same, weight, add}
use Rattle.exchange.specs.Opening.{same_error}
use Rattle.exchange.specs.decoder.Decoder.{Pair}

-- no bit of a sum is set exactly if both are the same
one_more : (n : ℕ) (t : Bool) → both (eqb n 0) (not t) ≡ eqb (n + bit t) 0
one_more zero true = refl
one_more zero false = refl
one_more (suc n) t = rw (ne_eqb (suc n) 0 (λ e. omega arith), ne_eqb (suc n + bit t) 0 (λ e. omega arith))

same-weight : (r : ℕ) (a b : Poly) → same r a b ≡ eqb (weight r (add a b)) 0
unfolding same weight add
same-weight zero a b = refl
same-weight (suc r) a b = rw (same-weight r a b) (one_more (weight r (add a b)) (flip (a r) (b r)))

none_of : (m n : ℕ) → eqb (m + n) 0 ≡ eqb m 0 && eqb n 0
none_of zero n = ap (λ (k : ℕ). eqb k 0) (zero-add n)
none_of (suc m) n = rw (ne_eqb (suc m) 0 (λ e. omega arith), ne_eqb (suc m + n) 0 (λ e. omega arith))

pub nothing-differs : (r : ℕ) (e f : Pair) → eqb (weight r (add e.half0 f.half0) + weight r (add e.half1 f.half1)) 0 ≡ same_error r e f
unfolding same_error
nothing-differs r e f =
    rw (same-weight r e.half0 f.half0, same-weight r e.half1 f.half1) (none_of (weight r (add e.half0 f.half0)) _)
