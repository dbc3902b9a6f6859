-- The promise of each public entry of this crate admits just one outcome; and when `inverse` gives 5. Assumes nothing.
use mathlib.Core.Path.{◌≡◌, refl, sym, ap}
use mathlib.Core.Bool.{Bool, true, false, not}
use mathlib.Core.List.{List}
use mathlib.Core.Logic.{◌↔◌}
use Prim.Native.Nat.{ℕ}
use native.Mathlib.Omega.{arith}
use borrow.Author.Tests.{eq-eqb}
use lib.ListN.{length}
use Rattle.hashing.specs.Answers.{first_of, differs}
use Rattle.hashing.specs.Lists.{bits}
use Rattle.hashing.proofs.Answers.{done, refused, last_applies, last_clear, one_outcome, one_output, one_number}
use Rattle.ring.specs.Bytes.{pad_set}
use Rattle.ring.specs.Levels.{known, level_of, poly_bytes}
use Rattle.ring.specs.Polynomials.{Poly, InRing, one, mul, has_inverse}
use Rattle.ring.specs.Promises.{ProductPromise, inverse_reasons, inverse_says, InversePromise, ProductsPromise}
use Rattle.ring.proofs.Inverses.{inverse_found, no_inverse}
use Rattle.ring.proofs.Judging.{inverse_numbered}
use Rattle.ring.proofs.Levels.{r_pos}

pub product_just_one : (level : ℕ) (a b : List ℕ) (room : ℕ) {r r' : ℕ} {out out' : List ℕ}
    → ProductPromise level a b room r out → ProductPromise level a b room r' out' → (r ≡ r') × (out ≡ out')
product_just_one level a b room = one_output

pub inverse_just_one : (level : ℕ) (a : List ℕ) (room : ℕ) {r r' products products' : ℕ} {out out' : List ℕ}
    → InversePromise level a room r out × ProductsPromise level a room products
    → InversePromise level a room r' out' × ProductsPromise level a room products'
    → ((r ≡ r') × (out ≡ out')) × (products ≡ products')
inverse_just_one level a room one two = (one_output one.0 two.0, one_number one.1 two.1)

-- Where level, lengths and pads are right, `inverse` gives 5 exactly if no polynomial of the ring multiplies the given one to 1.
module _ (level : ℕ) (a : List ℕ) (room : ℕ) (level_known : known level ≡ true) (size : length a ≡ poly_bytes (level_of level))
    (room_is : room ≡ poly_bytes (level_of level)) (no_pad : pad_set (level_of level).r a ≡ false) where
  none : first_of (inverse_reasons level a room) ≡ 0
  unfolding inverse_reasons first_of differs
  none = rw (level_known, eq-eqb _ _ size, eq-eqb _ _ room_is, no_pad)

  pub inverse_refuses_exactly : {number : ℕ} {out : List ℕ} → InversePromise level a room number out →
      let r = (level_of level).r in
      (number ≡ 5) ↔ ((b : Poly) → InRing r b → mul r (bits 8 a) b ≡ one r → ⊥)
  unfolding inverse_says
  inverse_refuses_exactly {number} {out} says = go (has_inverse (level_of level).r (bits 8 a)) refl
    where
      go : (t : Bool) → has_inverse (level_of level).r (bits 8 a) ≡ t
          → (number ≡ 5) ↔ ((b : Poly) → InRing (level_of level).r b → mul (level_of level).r (bits 8 a) b ≡ one (level_of level).r → ⊥)
      go true there =
          let clear = last_clear _ (record { applies = _; number = 5 }) (inverse_numbered level a room) none (ap not there) in
          let zero : number ≡ 0 = (one_outcome says (sym (done _ _ clear))).0 in
          let found = inverse_found (level_of level).r (r_pos level) (bits 8 a) there in
          (λ five. absurd (omega arith), λ lacks. absurd (lacks _ found.inside found.product))
      go false missing =
          let five = last_applies _ (record { applies = _; number = 5 }) (inverse_numbered level a room) none (ap not missing) in (
            λ _. λ b inside product. no_inverse (level_of level).r (r_pos level) missing (record { inside = inside; product = product }),
            λ _. (one_outcome says (sym (refused _ _ (sym five) (λ q. omega arith)))).0,
          )
