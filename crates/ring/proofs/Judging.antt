-- What a judge that finds nothing says of the polynomials; a judge of one polynomial is one of two. Assumes nothing.
use mathlib.Core.Path.{◌≡◌, refl, ap, ◌∙◌}
use mathlib.Core.Bool.{Bool, true, false, ◌||◌}
use mathlib.Core.List.{List}
use Prim.Native.Nat.{ℕ, ◌<◌}
use lib.Dec.{lit<}
use lib.ListN.{length}
use Rattle.hashing.specs.Answers.{first_of}
use Rattle.hashing.specs.Lists.{bits}
use Rattle.hashing.proofs.Answers.{Numbered, agree, clear}
use Rattle.ring.specs.Levels.{level_of, poly_bytes}
use Rattle.ring.specs.Polynomials.{InRing}
use Rattle.ring.specs.Promises.{product_reasons, inverse_reasons}
use Rattle.ring.specs.inner.Sizes.{word_bits}
use Rattle.ring.proofs.Bools.{both_false}
use Rattle.ring.proofs.Layouts.{Below, pad_rule}
use Rattle.ring.proofs.Levels.{r_small}

-- lengths that are the level's, and bytes of polynomials of the ring
pub record Judged (level : ℕ) (a b : List ℕ) (room : ℕ) : Type 0 where
  pub size0 : length a ≡ poly_bytes (level_of level)
  pub size1 : length b ≡ poly_bytes (level_of level)
  pub size : room ≡ poly_bytes (level_of level)
  pub small : (level_of level).r < word_bits
  pub inside0 : Below 8 a → InRing (level_of level).r (bits 8 a)
  pub inside1 : Below 8 b → InRing (level_of level).r (bits 8 b)

module _ (level : ℕ) (a : List ℕ) where
  pub judged : (b : List ℕ) (room : ℕ) → first_of (product_reasons level a b room) ≡ 0 → Judged level a b room
  unfolding product_reasons
  judged b room none =
      let known = clear _ _ (lit< tt) none in
      let lengths = clear _ _ (lit< tt) known.1 in
      let pads = both_false _ _ (clear _ _ (lit< tt) lengths.1).0 in
      let each = both_false _ _ lengths.0 in
      let factors = both_false _ _ each.0 in
      let size0 = agree _ _ factors.0 in
      let size1 = agree _ _ factors.1 in
      record {
        size0 = size0;
        size1 = size1;
        size = agree _ _ each.1;
        small = r_small level;
        inside0 = λ bytes. (pad_rule (level_of level).r a size0 bytes).0 pads.0;
        inside1 = λ bytes. (pad_rule (level_of level).r b size1 bytes).0 pads.1;
      }

  or_self : (t : Bool) → t || t ≡ t
  or_self true = refl
  or_self false = refl

  pub one_of_two : (room : ℕ) → product_reasons level a a room ≡ inverse_reasons level a room
  unfolding product_reasons inverse_reasons
  one_of_two room = simp or_self

  pub judged-one : (room : ℕ) → first_of (inverse_reasons level a room) ≡ 0 → Judged level a a room
  judged-one room none = judged a room (ap first_of (one_of_two room) ∙ none)

  pub inverse_numbered : (room : ℕ) → Numbered (inverse_reasons level a room)
  unfolding inverse_reasons
  inverse_numbered room = (lit< tt, (lit< tt, (lit< tt, tt)))
