-- Document 01's examples of the ring, P1 to P4, with r = 5 and each polynomial by its exponents. Assumes nothing.
use mathlib.Core.Path.{◌≡◌, refl}
use mathlib.Core.Bool.{true, false}
use mathlib.Core.List.{List, [], ◌∷◌}
use Prim.Native.Nat.{ℕ, ◌<◌}
use lib.Dec.{lit<}
use Rattle.hashing.specs.Lists.{bit_at}
use Rattle.ring.specs.Polynomials.{Poly, IsInverse, parity, over, power, one, add, mul, terms, same, some_below, inverts, has_inverse, inverse_of}
use Rattle.ring.proofs.Ring.{mul_in, power_in, terms_in}
use Rattle.ring.proofs.Inverses.{same-equal, inverse_is}

abbrev X : List ℕ → Poly
X exponents = terms 5 exponents

five : 0 < 5
five = lit< tt

inverse : (a b : List ℕ) → same 5 (mul 5 (X a) (X b)) (one 5) ≡ true → IsInverse 5 (X a) (X b) × (inverse_of 5 (X a) ≡ X b)
unfolding one
inverse a b e =
    let is : IsInverse 5 (X a) (X b) =
    record { inside = terms_in 5 five b; product = same-equal 5 (mul_in 5 five (X a) (X b)) (power_in 5 five 0) e } in
    (is, inverse_is 5 five is)

pub P1 : mul 5 (X (0 ∷ 1 ∷ [])) (X (0 ∷ 1 ∷ 2 ∷ [])) ≡ X (0 ∷ 3 ∷ [])
unfolding same mul over parity power add terms
P1 = same-equal 5 (mul_in 5 five (X (0 ∷ 1 ∷ [])) (X (0 ∷ 1 ∷ 2 ∷ []))) (terms_in 5 five (0 ∷ 3 ∷ [])) refl

pub P2 : IsInverse 5 (X (0 ∷ 1 ∷ 2 ∷ [])) (X (1 ∷ 2 ∷ 4 ∷ [])) × (inverse_of 5 (X (0 ∷ 1 ∷ 2 ∷ [])) ≡ X (1 ∷ 2 ∷ 4 ∷ []))
unfolding same mul over parity power add terms one
P2 = inverse (0 ∷ 1 ∷ 2 ∷ []) (1 ∷ 2 ∷ 4 ∷ []) refl

pub P3 : IsInverse 5 (X (1 ∷ [])) (X (4 ∷ [])) × (inverse_of 5 (X (1 ∷ [])) ≡ X (4 ∷ []))
unfolding same mul over parity power add terms one
P3 = inverse (1 ∷ []) (4 ∷ []) refl

pub P4 : (has_inverse 5 (X (0 ∷ 1 ∷ [])) ≡ false) × (has_inverse 5 (X (0 ∷ 1 ∷ 2 ∷ 3 ∷ 4 ∷ [])) ≡ false)
unfolding same mul over parity power add terms one bit_at some_below inverts has_inverse
P4 = (refl, refl)
