-- A rotated key, read again: its halves are turned, its tail stands, and it is as long and as good as the key.
-- Assumes nothing.
use mathlib.Core.Path.{◌≡◌, sym, ap, ap₂, ◌∙◌}
use mathlib.Core.Bool.{true}
use mathlib.Core.List.{List, ◌++◌}
use Prim.Native.Nat.{ℕ, ◌+◌, ◌*◌, ◌%◌}
use native.Mathlib.Omega.{arith}
use lib.ListN.{length, length-append, length-drop}
use Rattle.ring.specs.Levels.{level_of, private_bytes}
use Rattle.ring.specs.Polynomials.{Poly, one, rising, support}
use Rattle.ring.proofs.Bools.{both_true}
use Rattle.ring.proofs.Layouts.{Below}
use Rattle.ring.proofs.Levels.{r_pos}
use Rattle.ring.proofs.Ring.{mul_in, one-mul}
use Rattle.ring.proofs.Rotations.{weight-turned, turned-turned}
use Rattle.ring.proofs.Weights.{length-rising}
use Rattle.ring.proofs.little_endian.Laws.{numbers-length}
use Rattle.exchange.specs.decoder.PrivateKey.{positions0, positions1, secret, tail, rising_from, good_key}
use Rattle.exchange.specs.Scheme.{two_bytes, private_key_of}
use Rattle.exchange.proofs.Making.{length-two_bytes, positions0_back, positions1_back, tail_back, secret_back, rising_good, rising-support, key_again}
use Rattle.exchange.proofs.decoder.Listing.{rising_in}
use Rattle.exchange.proofs.keys.Laws.{Half}
use Rattle.service.specs.Rotation.{turned, turned_pair, rotated}

-- positions that rise are a half, of as many as they are
rising_half : (level : ℕ) (ps : List ℕ) → length ps ≡ (level_of level).d → rising_from (level_of level).r 0 ps ≡ true
    → Half (level_of level).r (level_of level).d (support ps)
rising_half level ps many good =
    let r = (level_of level).r in
    record {
      inside = rising_in r (r_pos level) 0 ps good;
      weighs = sym (length-rising r (support ps)) ∙ ap length (rising-support r (r_pos level) ps good) ∙ many;
    }

turned_half : (level k : ℕ) {a : Poly} → Half (level_of level).r (level_of level).d a → Half (level_of level).r (level_of level).d (turned (level_of level).r k a)
unfolding turned
turned_half level k half =
    record {
      inside = mul_in (level_of level).r (r_pos level) _ _;
      weighs = weight-turned (level_of level).r (r_pos level) k _ ∙ half.weighs;
    }

module _ (level : ℕ) (key : List ℕ) (good : good_key (level_of level) key ≡ true) where
  pub half0 : Half (level_of level).r (level_of level).d (secret (level_of level) key).half0
  unfolding secret good_key positions0
  half0 = rising_half level (positions0 (level_of level) key) (numbers-length 2 (level_of level).d key)
      (both_true (rising_from (level_of level).r 0 (positions0 (level_of level) key)) _ good).0

  pub half1 : Half (level_of level).r (level_of level).d (secret (level_of level) key).half1
  unfolding secret good_key positions1
  half1 = rising_half level (positions1 (level_of level) key) (numbers-length 2 (level_of level).d _)
      (both_true (rising_from (level_of level).r 0 (positions0 (level_of level) key)) _ good).1

  module _ (k : ℕ) where
    pub first : Half (level_of level).r (level_of level).d (turned (level_of level).r k (secret (level_of level) key).half0)
    first = turned_half level k half0

    pub second : Half (level_of level).r (level_of level).d (turned (level_of level).r k (secret (level_of level) key).half1)
    second = turned_half level k half1

    pub secret-rotated : secret (level_of level) (rotated (level_of level) k key) ≡ turned_pair (level_of level).r k (secret (level_of level) key)
    unfolding rotated turned_pair
    secret-rotated = secret_back (level_of level) _ _ (tail (level_of level) key) first.weighs second.weighs first.inside second.inside

    pub tail-rotated : tail (level_of level) (rotated (level_of level) k key) ≡ tail (level_of level) key
    unfolding rotated turned_pair
    tail-rotated = tail_back (level_of level) _ _ (tail (level_of level) key) first.weighs second.weighs

    pub good_rotated : good_key (level_of level) (rotated (level_of level) k key) ≡ true
    unfolding rotated turned_pair good_key
    good_rotated =
        rw (
          positions0_back (level_of level) _ _ (tail (level_of level) key) first.weighs second.weighs,
          positions1_back (level_of level) _ _ (tail (level_of level) key) first.weighs second.weighs,
          rising_good (level_of level).r (turned (level_of level).r k (secret (level_of level) key).half0),
          rising_good (level_of level).r (turned (level_of level).r k (secret (level_of level) key).half1),
        )

    pub length-rotated : length key ≡ private_bytes (level_of level) → length (rotated (level_of level) k key) ≡ private_bytes (level_of level)
    unfolding rotated turned_pair private_key_of tail
    length-rotated size =
        let r = (level_of level).r in
        let a = two_bytes (rising r (turned r k (secret (level_of level) key).half0)) in
        let b = two_bytes (rising r (turned r k (secret (level_of level) key).half1)) in
        let long0 = length-two_bytes (rising r (turned r k (secret (level_of level) key).half0)) ∙ ap (◌*◌ 2) (length-rising r _ ∙ first.weighs) in
        let long1 = length-two_bytes (rising r (turned r k (secret (level_of level) key).half1)) ∙ ap (◌*◌ 2) (length-rising r _ ∙ second.weighs) in
        let rest = length-drop (2 * ((level_of level).d + (level_of level).d)) key in
        length-append a (b ++ tail (level_of level) key) ∙ ap₂ ◌+◌ long0 (length-append b (tail (level_of level) key) ∙ ap₂ ◌+◌ long1 rest) ∙ omega arith

  -- by k and then by j
  pub rotated-rotated : (k j : ℕ) → rotated (level_of level) j (rotated (level_of level) k key) ≡ rotated (level_of level) ((k + j) % (level_of level).r) key
  unfolding rotated turned_pair turned
  rotated-rotated k j =
      let r = (level_of level).r in
      let h = secret (level_of level) key in
      rw (secret-rotated k, tail-rotated k, turned-turned r (r_pos level) k j h.half0, turned-turned r (r_pos level) k j h.half1)

  -- by 0
  pub rotated-none : Below 8 key → length key ≡ private_bytes (level_of level) → rotated (level_of level) 0 key ≡ key
  unfolding rotated turned_pair turned one
  rotated-none small size =
      let r = (level_of level).r in
      rw (one-mul r (r_pos level) half0.inside, one-mul r (r_pos level) half1.inside)
      (key_again (level_of level) (r_pos level) key small (omega arith) good)
