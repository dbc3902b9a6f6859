-- What key making, wrapping and opening in turn come to, from what each promises. Assumes nothing.
use mathlib.Core.Path.{◌≡◌, refl, sym, ap, ap₂, ◌∙◌}
use mathlib.Core.Bool.{true}
use mathlib.Core.List.{List, [], ◌∷◌, ◌++◌}
use Prim.Native.Nat.{ℕ, ◌≤◌}
use native.Mathlib.Omega.{arith}
use borrow.Author.Tests.{not-false}
use lib.Dec.{lit<}
use lib.ListN.{length, length-append}
use Rattle.hashing.specs.Answers.{first_of, settle}
use Rattle.hashing.specs.Answers.Outcome.{gives}
use Rattle.hashing.specs.Lists.{bits}
use Rattle.hashing.proofs.Answers.{Numbered, agree, clear, first_after, one_outcome, one_output, two_outputs}
use Rattle.ring.specs.Levels.{known, level_of, message_bytes, seed_bytes, ciphertext_bytes}
use Rattle.ring.specs.Polynomials.{Poly}
use Rattle.ring.proofs.Bools.{both_false}
use Rattle.ring.proofs.Layouts.{bits-bytes_of}
use Rattle.ring.proofs.Levels.{r_pos}
use Rattle.ring.proofs.Ring.{mul_in}
use Rattle.exchange.specs.Fits.{FromKeyMaking, Bytes, WellFormed, Fits, Fitting}
use Rattle.exchange.specs.Opening.{opened}
use Rattle.exchange.specs.decoder.Decoder.{bgf}
use Rattle.exchange.specs.Promises.{MakeKeyPromise, work_reasons, make_key_says, wrap_says, open_says}
use Rattle.exchange.specs.Scheme.{key_digest, hash_k, public_of, private_of, wrapped}
use Rattle.exchange.proofs.Demand.{wrapped_well_formed}
use Rattle.exchange.proofs.Judged.{MakingClear, making_none, making_numbered}
use Rattle.exchange.proofs.Pairs.{made_of, wraps, opens, demand_3}
use Rattle.both_ends.specs.BothEnds.{digest_of, sent_to, both_ends_reasons, BothEndsPromise, Finds, Agree}

-- a front is not longer than the whole
pub front_fits : (xs ys : List ℕ) {n : ℕ} → length xs ≡ n → n ≤ length (xs ++ ys)
front_fits xs ys long = omega (arith, long, length-append xs ys)

-- what it says that the judge finds nothing
pub record Clear (level : ℕ) (seed m : List ℕ) (room_sent room_opened : ℕ) : Type 0 where
  pub level_known : known level ≡ true
  pub seed_size : length seed ≡ seed_bytes
  pub message_size : length m ≡ message_bytes
  pub sent_room : room_sent ≡ message_bytes
  pub opened_room : room_opened ≡ message_bytes

module _ {level : ℕ} {seed m : List ℕ} {room_sent room_opened : ℕ} where
  pub clear_of : first_of (both_ends_reasons level seed m room_sent room_opened) ≡ 0 → Clear level seed m room_sent room_opened
  unfolding both_ends_reasons
  clear_of none =
      let first = clear _ _ (lit< tt) none in
      let second = clear _ _ (lit< tt) first.1 in
      let two = both_false _ _ second.0 in
      let one = both_false _ _ two.0 in
      let zero = both_false _ _ one.0 in
      record {
        level_known = not-false _ first.0;
        seed_size = agree _ _ zero.0;
        message_size = agree _ _ zero.1;
        sent_room = agree _ _ one.1;
        opened_room = agree _ _ two.1;
      }

-- then what shows in the work counts
module _ (level : ℕ) (seed m : List ℕ) (room_sent room_opened : ℕ) (none : first_of (both_ends_reasons level seed m room_sent room_opened) ≡ 0) where
  numbered : Numbered (both_ends_reasons level seed m room_sent room_opened)
  unfolding both_ends_reasons
  numbered = (lit< tt, (lit< tt, tt))

  pub later_work : first_of (work_reasons (level_of level) seed) ≡ first_of (both_ends_reasons level seed m room_sent room_opened ++ work_reasons (level_of level) seed)
  later_work = sym (first_after _ _ numbered none)

-- once it is judged, key making answers with the number that shows in the work
module _ (level : ℕ) (seed public private : List ℕ) (made : ℕ) (judged : MakingClear level seed (length public) (length private))
    (says : MakeKeyPromise level seed (length public) (length private) made public private) where
  pub made_number : made ≡ first_of (work_reasons (level_of level) seed)
  unfolding make_key_says settle
  made_number =
      (one_outcome says refl).0
      ∙ first_after _ _ (making_numbered level seed (length public) (length private)) (making_none judged)

module _ (level : ℕ) (seed m public private : List ℕ) (pair : FromKeyMaking level seed public private) (message : Bytes message_bytes m) where
  public_is : bits 8 public ≡ public_of (level_of level) seed
  unfolding public_of
  public_is =
      ap (bits 8) (made_of level seed public private pair).public_is
      ∙ bits-bytes_of (level_of level).r (mul_in (level_of level).r (r_pos level) _ _)

  private_is : private ≡ private_of (level_of level) seed
  private_is = (made_of level seed public private pair).private_is

  digest_is : key_digest public ≡ digest_of (level_of level) seed
  digest_is = ap key_digest (made_of level seed public private pair).public_is

  wrapped_is : wrapped (level_of level) (key_digest public) (bits 8 public) m ≡ sent_to (level_of level) seed m
  unfolding sent_to
  wrapped_is = ap₂ (λ (digest : List ℕ) (h : Poly). wrapped (level_of level) digest h m) digest_is public_is

  pub app : let c = sent_to (level_of level) seed m in wrap_says level public m (ciphertext_bytes (level_of level)) message_bytes ≡ gives 0 (c ∷ hash_k m c ∷ [])
  app =
      wraps level seed public private pair m message.size ∙ ap (λ (c : List ℕ). gives 0 (c ∷ hash_k m c ∷ [])) wrapped_is

  well_formed : WellFormed (level_of level) (sent_to (level_of level) seed m)
  unfolding sent_to
  well_formed = wrapped_well_formed (level_of level) (r_pos level) (digest_of (level_of level) seed) (public_of (level_of level) seed) m message.small

  pub controller :
      let c = sent_to (level_of level) seed m in
      open_says level private c message_bytes ≡ gives 0 (opened bgf (level_of level) (private_of (level_of level) seed) c ∷ [])
  controller =
      opens level seed public private pair (sent_to (level_of level) seed m) well_formed
      ∙ ap (λ (key : List ℕ). gives 0 (opened bgf (level_of level) key (sent_to (level_of level) seed m) ∷ [])) private_is

  demand : Fitting level seed public private (sent_to (level_of level) seed m)
  demand = demand_3 level seed public private (sent_to (level_of level) seed m) pair well_formed

  fits : Finds bgf (level_of level) seed m → Fits bgf (level_of level) public private (sent_to (level_of level) seed m) m
  fits found =
      rw private_is (record { message = message; wraps = wrapped_is; decodes = found.decodes; finds = rw digest_is found.finds })

  pub ends_agree :
      let c = sent_to (level_of level) seed m in
      Agree (level_of level) seed m (hash_k m c) (opened bgf (level_of level) (private_of (level_of level) seed) c)
  ends_agree =
      record {
        same = λ found. (one_output (sym controller) (sym (demand.if_one_fits m (fits found)).1)).1;
        another = λ n fit.
            (one_output (sym controller) (sym (demand.if_one_fits n (rw ((made_of level seed public private pair).public_is, private_is) fit)).1)).1;
        substitute = λ none.
            (one_output (sym controller)
            (sym (demand.if_none_fits (λ n fit. none n (rw ((made_of level seed public private pair).public_is, private_is) at fit))))).1;
      }

-- the promise admits just one outcome
pub both_ends_just_one : (level : ℕ) (seed m : List ℕ) (room_sent room_opened : ℕ) {r r' : ℕ} {sent sent' opened opened' : List ℕ}
    → BothEndsPromise level seed m room_sent room_opened r sent opened → BothEndsPromise level seed m room_sent room_opened r' sent' opened'
    → (r ≡ r') × (sent ≡ sent') × (opened ≡ opened')
both_ends_just_one level seed m room_sent room_opened = two_outputs
