-- Demand 3 for a key pair from our own key making and any well-formed ciphertext, in the words of the entries' promises. Assumes nothing.
use mathlib.Core.Path.{◌≡◌, refl, sym, ap, ◌∙◌}
use mathlib.Core.Bool.{Bool, true, false}
use mathlib.Core.List.{List, [], ◌∷◌, ◌++◌}
use Prim.Native.Nat.{ℕ, ◌+◌}
use native.Mathlib.Omega.{arith}
use borrow.Author.Tests.{not-false}
use lib.Dec.{lit<}
use lib.ListN.{length, length-drop}
use lib.Seq.{take_at, drop_at}
use Rattle.hashing.specs.Answers.Outcome.{gives}
use Rattle.hashing.specs.Lists.{bits}
use Rattle.hashing.proofs.Answers.{done, settled_two, clear, all_clear}
use Rattle.ring.specs.Bytes.{bytes_of, pad_set}
use Rattle.ring.specs.Levels.{Level, level_of, message_bytes, ciphertext_bytes}
use Rattle.ring.specs.Polynomials.{same, weight, has_inverse, inverse_of}
use Rattle.ring.proofs.Bools.{both_true}
use Rattle.ring.proofs.Inverses.{inverse_found, same_true}
use Rattle.ring.proofs.Layouts.{bits-bytes_of, bytes_of_pad}
use Rattle.ring.proofs.Levels.{r_pos, sizes}
use Rattle.ring.proofs.Ring.{mul_in}
use Rattle.ring.proofs.Weights.{weight_ext, weight-none}
use Rattle.exchange.specs.decoder.Decoder.{Pair, nothing, bgf}
use Rattle.exchange.specs.decoder.PrivateKey.{secret, good_key, tail, sigma, digest_in}
use Rattle.exchange.specs.Fits.{FromKeyMaking, WellFormed, Fitting, Demand3}
use Rattle.exchange.specs.Opening.{same_error, opened}
use Rattle.exchange.specs.Promises.{making_reasons, work_reasons, make_key_says, wrap_says, open_says}
use Rattle.exchange.specs.Scheme.{hash_h, hash_k, h0_of, h1_of, key_ran_out, sigma_of, public_of, key_digest, private_of, wrapped}
use Rattle.exchange.proofs.Demand.{Matched, at_most_one, no_two, one_or_none, fitting_opens, none_opens}
use Rattle.exchange.proofs.Errors.{error_weight}
use Rattle.exchange.proofs.Judged.{MakingClear, making_clear, making_numbered, wrapping_none, opening_none}
use Rattle.exchange.proofs.Making.{positions0_back, positions1_back, tail_back, secret_back, rising_good}
use Rattle.exchange.proofs.decoder.Laws.{bgf_in}
use Rattle.exchange.proofs.keys.Laws.{Half, h0_half, h1_half}

-- what an answer 0 of key making says
pub record Made (level : ℕ) (seed public private : List ℕ) : Type 0 where
  pub judged : MakingClear level seed (length public) (length private)
  pub enough : key_ran_out (level_of level) seed ≡ false
  pub invertible : has_inverse (level_of level).r (h0_of (level_of level) seed) ≡ true
  pub public_is : public ≡ bytes_of (level_of level).r (public_of (level_of level) seed)
  pub private_is : private ≡ private_of (level_of level) seed

pub made_of : (level : ℕ) (seed public private : List ℕ) → FromKeyMaking level seed public private → Made level seed public private
unfolding make_key_says work_reasons
made_of level seed public private says =
    let done = settled_two _ _ _ public private says in
    let none = all_clear (making_reasons level seed (length public) (length private)) _ (making_numbered level seed (length public) (length private)) done.0 in
    let drawn = clear _ _ (lit< tt) none.1 in
    record {
      judged = making_clear none.0;
      enough = drawn.0;
      invertible = not-false (has_inverse (level_of level).r (h0_of (level_of level) seed)) (clear _ _ (lit< tt) drawn.1).0;
      public_is = done.1;
      private_is = done.2;
    }

-- what is made matches, and its private key is good
module _ (level : ℕ) (seed public private : List ℕ) (made : Made level seed public private) where
  l : Level
  l = level_of level

  first : Half (level_of level).r (level_of level).d (h0_of (level_of level) seed)
  first = h0_half (level_of level) seed made.enough

  second : Half (level_of level).r (level_of level).d (h1_of (level_of level) seed)
  second = h1_half (level_of level) seed made.enough

  -- sigma, and D of this public key
  last : List ℕ
  last = sigma_of seed ++ key_digest (bytes_of (level_of level).r (public_of (level_of level) seed))

  sigma_long : length (sigma_of seed) ≡ message_bytes
  unfolding sigma_of
  sigma_long = length-drop message_bytes seed ∙ omega (arith, made.judged.seed_size)

  tail_is : tail (level_of level) private ≡ last
  unfolding last
  tail_is =
      rw made.private_is (tail_back (level_of level) (h0_of (level_of level) seed) (h1_of (level_of level) seed) last first.weighs second.weighs)

  halves : secret l private ≡ record { half0 = h0_of l seed; half1 = h1_of l seed }
  unfolding l last
  halves = rw made.private_is (secret_back l (h0_of l seed) (h1_of l seed) last first.weighs second.weighs first.inside second.inside)

  pub matched : Matched (level_of level).r (bits 8 public) (secret (level_of level) private)
  unfolding l public_of
  matched =
      rw halves
      (record {
        inverse = inverse_of l.r (h0_of l seed);
        inverts = (inverse_found l.r (r_pos level) (h0_of l seed) made.invertible).product;
        made = ap (bits 8) made.public_is ∙ bits-bytes_of l.r (mul_in l.r (r_pos level) _ _);
      })

  pub good : good_key (level_of level) private ≡ true
  unfolding l last good_key
  good =
      let back0 = positions0_back l (h0_of l seed) (h1_of l seed) last first.weighs second.weighs in
      let back1 = positions1_back l (h0_of l seed) (h1_of l seed) last first.weighs second.weighs in
      rw (made.private_is, back0, back1, rising_good l.r (h0_of l seed), rising_good l.r (h1_of l seed))

  pub sigma_is : sigma (level_of level) private ≡ sigma_of seed
  unfolding sigma last
  sigma_is = rw tail_is (take_at (sigma_of seed) _ message_bytes sigma_long)

  -- the private key's D is that of the public key
  pub digest_is : digest_in (level_of level) private ≡ key_digest public
  unfolding digest_in last
  digest_is = rw (tail_is, made.public_is) (drop_at (sigma_of seed) _ message_bytes sigma_long)

-- an error of weight t is not 0
weighs_nothing : (r : ℕ) (e : Pair) → same_error r nothing e ≡ true → weight r e.half0 + weight r e.half1 ≡ 0
unfolding same_error nothing
weighs_nothing r e same-error =
    let parts = both_true (same r (λ k. false) e.half0) (same r (λ k. false) e.half1) same-error in
    let clear0 = weight_ext r {a = e.half0} {b = λ k. false} (λ k below. sym (same_true r (λ k. false) e.half0 parts.0 k below)) in
    let clear1 = weight_ext r {a = e.half1} {b = λ k. false} (λ k below. sym (same_true r (λ k. false) e.half1 parts.1 k below)) in
    omega (arith, clear0, clear1, weight-none r)

pub never_nothing : (level : ℕ) (m : List ℕ) → same_error (level_of level).r nothing (hash_h (level_of level) m) ≡ false
never_nothing level m = go (same_error (level_of level).r nothing (hash_h (level_of level) m)) refl
  where
    go : (b : Bool) → same_error (level_of level).r nothing (hash_h (level_of level) m) ≡ b → b ≡ false
    go true e = absurd (omega (arith, weighs_nothing (level_of level).r (hash_h (level_of level) m) e, error_weight level m, (sizes level).t_least))
    go false e = refl

module _ (level : ℕ) (seed public private : List ℕ) (pair : FromKeyMaking level seed public private) where
  made : Made level seed public private
  made = made_of level seed public private pair

  public_pad : pad_set (level_of level).r public ≡ false
  unfolding public_of
  public_pad = rw made.public_is (bytes_of_pad (level_of level).r (mul_in (level_of level).r (r_pos level) _ _))

  -- to this public key every message wraps
  pub wraps : (m : List ℕ) → length m ≡ message_bytes →
      let c = wrapped (level_of level) (key_digest public) (bits 8 public) m in
      wrap_says level public m (ciphertext_bytes (level_of level)) message_bytes ≡ gives 0 (c ∷ hash_k m c ∷ [])
  unfolding wrap_says
  wraps m size =
      done _ _
      (wrapping_none
      (record {
        level_known = made.judged.level_known;
        public_size = made.judged.public_room;
        message_size = size;
        ciphertext_room = refl;
        key_room = refl;
        no_pad = public_pad;
      }))

  module _ (c : List ℕ) (well_formed : WellFormed (level_of level) c) where
    -- by this private key every well-formed ciphertext opens
    pub opens : open_says level private c message_bytes ≡ gives 0 (opened bgf (level_of level) private c ∷ [])
    unfolding open_says
    opens =
        done _ _
        (opening_none
        (record {
          level_known = made.judged.level_known;
          key_size = made.judged.private_room;
          ciphertext_size = well_formed.bytes.size;
          key_room = refl;
          content = record { no_pad = well_formed.no_pad; good_positions = good level seed public private made };
        }))

    opens_with : {key : List ℕ} → opened bgf (level_of level) private c ≡ key → open_says level private c message_bytes ≡ gives 0 (key ∷ [])
    opens_with is = opens ∙ ap (λ (key : List ℕ). gives 0 (key ∷ [])) is

    fitting : Fitting level seed public private c
    fitting =
        let pair = matched level seed public private made in
        let belongs = digest_is level seed public private made in
        record {
          at_most_one = λ m n. at_most_one bgf (level_of level);
          never_two = λ m d. no_two bgf (level_of level);
          one_or_none = one_or_none bgf (level_of level) (r_pos level) (bgf_in (level_of level)) public private c well_formed pair;
          if_one_fits = λ m fits. (
            ap (λ (n : ℕ). wrap_says level public m n message_bytes) well_formed.bytes.size ∙ wraps m fits.message.size
                ∙ ap (λ (d : List ℕ). gives 0 (d ∷ hash_k m d ∷ [])) fits.wraps,
            opens_with (fitting_opens bgf (level_of level) belongs fits),
          );
          if_none_fits = λ none.
              opens_with
              (none_opens bgf (level_of level) (r_pos level) (bgf_in (level_of level)) public private c well_formed pair belongs (never_nothing level) none
              ∙ ap (λ (last : List ℕ). hash_k last c) (sigma_is level seed public private made));
        }

pub demand_3 : Demand3
demand_3 level seed public private c pair well_formed = fitting level seed public private pair c well_formed
