-- What it says that a judge finds nothing, entry by entry, in both directions. Assumes nothing.
use mathlib.Core.Path.{◌≡◌, refl, sym, ap, ◌∙◌}
use mathlib.Core.Bool.{Bool, true, false, not, ◌||◌, true≢false, false≢true}
use mathlib.Core.List.{List, [], ◌∷◌, ◌++◌}
use Prim.Native.Nat.{ℕ, ◌≤◌}
use borrow.Author.Tests.{eq-eqb, ne_eqb, ltb-false, not-false}
use lib.Dec.{ltb, lit<}
use lib.ListN.{length, take}
use Rattle.hashing.specs.Answers.{Reason, first_of, differs}
use Rattle.std.specs.Prelude.{Result, Ok, Err, is_err, IsErrAnd, IfOk}
use Rattle.hashing.specs.Refusals.{number, answer}
use Rattle.hashing.specs.declared.refusal.Refusal.{Refusal}
use Rattle.hashing.proofs.Answers.{Numbered, agree, clear, numbered, first_stays, all_clear}
use Rattle.ring.specs.Bytes.{pad_set}
use Rattle.ring.specs.Levels.{Level, known, level_of, message_bytes, seed_bytes, poly_bytes, ciphertext_bytes, private_bytes}
use Rattle.ring.proofs.Bools.{both_false}
use Rattle.exchange.specs.decoder.PrivateKey.{good_key}
use Rattle.exchange.specs.Fair.{most_words}
use Rattle.exchange.specs.Doors.{report_bytes, making_door_reasons}
use Rattle.exchange.specs.Promises.{error_reasons, making_reasons, fair_reasons, wrapping_reasons, content_reasons, decoding_reasons, opening_reasons}

-- lengths that are right
pub fits : (a b : ℕ) → a ≡ b → differs a b ≡ false
unfolding differs
fits a b same = rw (eq-eqb a b same)

-- and lengths that are wrong
pub misses : (a b : ℕ) → (a ≡ b → ⊥) → differs a b ≡ true
unfolding differs
misses a b other = rw (ne_eqb a b other)

-- the refusal that `?` hands on
pub hands_on : {A : Type 0} {n : ℕ} (handed : Result A Refusal) (refusal : Refusal) → IsErrAnd handed (λ (x : Refusal). x ≡ refusal)
    → number refusal ≡ n → answer handed ≡ n
hands_on (Ok value) refusal never is = absurd never
hands_on (Err other) refusal same is = ap number same ∙ is

-- what a test tells of a result
pub failed : {A : Type 0} (outcome : Result A Refusal) → is_err outcome ≡ true → (refusal : Refusal) × (outcome ≡ Err refusal)
failed (Ok value) never = absurd (false≢true never)
failed (Err refusal) so = (refusal, refl)

pub got : {A : Type 0} {P : A → Type 0} (outcome : Result A Refusal) → is_err outcome ≡ false → IfOk outcome P
    → (value : A) × (outcome ≡ Ok value) × P value
got (Ok value) so holds = (value, refl, holds)
got (Err refusal) never holds = absurd (true≢false never)

-- a refusal that comes first stays so where the work may show one more
pub refuses_first : (before rest : List Reason) (refusal : Refusal) → number refusal ≡ first_of before
    → number refusal ≡ first_of (before ++ rest)
refuses_first before rest refusal first = first ∙ sym (first_stays before rest (λ none. numbered refusal (first ∙ none)))

-- H
pub record ErrorClear (level : ℕ) (m : List ℕ) (room0 room1 : ℕ) : Type 0 where
  pub level_known : known level ≡ true
  pub message_size : length m ≡ message_bytes
  pub room0_is : room0 ≡ poly_bytes (level_of level)
  pub room1_is : room1 ≡ poly_bytes (level_of level)

pub error_clear : {level : ℕ} {m : List ℕ} {room0 room1 : ℕ} → first_of (error_reasons level m room0 room1) ≡ 0 → ErrorClear level m room0 room1
unfolding error_reasons
error_clear none =
    let first = clear _ _ (lit< tt) none in
    let second = clear _ _ (lit< tt) first.1 in
    let one = both_false _ _ second.0 in
    let zero = both_false _ _ one.0 in
    record {
      level_known = not-false _ first.0;
      message_size = agree _ _ zero.0;
      room0_is = agree _ _ zero.1;
      room1_is = agree _ _ one.1;
    }

-- key making
pub record MakingClear (level : ℕ) (seed : List ℕ) (room_public room_private : ℕ) : Type 0 where
  pub level_known : known level ≡ true
  pub seed_size : length seed ≡ seed_bytes
  pub public_room : room_public ≡ poly_bytes (level_of level)
  pub private_room : room_private ≡ private_bytes (level_of level)

module _ {level : ℕ} {seed : List ℕ} {room_public room_private : ℕ} where
  pub making_clear : first_of (making_reasons level seed room_public room_private) ≡ 0 → MakingClear level seed room_public room_private
  unfolding making_reasons
  making_clear none =
      let first = clear _ _ (lit< tt) none in
      let second = clear _ _ (lit< tt) first.1 in
      let one = both_false _ _ second.0 in
      let zero = both_false _ _ one.0 in
      record {
        level_known = not-false _ first.0;
        seed_size = agree _ _ zero.0;
        public_room = agree _ _ zero.1;
        private_room = agree _ _ one.1;
      }

  pub making_none : MakingClear level seed room_public room_private → first_of (making_reasons level seed room_public room_private) ≡ 0
  unfolding making_reasons first_of
  making_none is = rw (is.level_known, fits _ _ is.seed_size, fits _ _ is.public_room, fits _ _ is.private_room)

pub making_numbered : (level : ℕ) (seed : List ℕ) (room_public room_private : ℕ) → Numbered (making_reasons level seed room_public room_private)
unfolding making_reasons
making_numbered level seed room_public room_private = (lit< tt, (lit< tt, tt))

-- one polynomial of it
pub record FairClear (level count room : ℕ) : Type 0 where
  pub level_known : known level ≡ true
  pub few_words : count ≤ most_words
  pub room_is : room ≡ poly_bytes (level_of level)

pub fair_clear : {level count room : ℕ} → first_of (fair_reasons level count room) ≡ 0 → FairClear level count room
unfolding fair_reasons
fair_clear {level} {count} {room} none =
    let first = clear _ _ (lit< tt) none in
    let second = clear _ _ (lit< tt) first.1 in
    let lengths = both_false (ltb most_words count) _ second.0 in
    record {
      level_known = not-false _ first.0;
      few_words = ltb-false most_words count lengths.0;
      room_is = agree _ _ lengths.1;
    }

pub fair_numbered : (level count room : ℕ) → Numbered (fair_reasons level count room)
unfolding fair_reasons
fair_numbered level count room = (lit< tt, (lit< tt, tt))

-- the door of key making: 2 for the report's length, where the entry finds nothing
module _ (level : ℕ) (seed : List ℕ) (room_public room_private room_report : ℕ) where
  pub making_door_first : first_of (making_door_reasons level seed room_public room_private room_report)
      ≡ first_of (making_reasons level seed room_public room_private ++ (record { applies = differs room_report report_bytes; number = 2 } ∷ []))
  unfolding making_door_reasons making_reasons first_of
  making_door_first =
      go (not (known level))
      (differs (length seed) seed_bytes || differs room_public (poly_bytes (level_of level)) || differs room_private (private_bytes (level_of level)))
      (differs room_report report_bytes)
    where
      go : (unknown wrong report : Bool)
          → first_of (record { applies = unknown; number = 1 } ∷ record { applies = wrong || report; number = 2 } ∷ [])
          ≡ first_of (record { applies = unknown; number = 1 } ∷ record { applies = wrong; number = 2 } ∷ record { applies = report; number = 2 } ∷ [])
      go true wrong report = refl
      go false true report = refl
      go false false true = refl
      go false false false = refl

  pub making_door_clear : first_of (making_door_reasons level seed room_public room_private room_report) ≡ 0
      → (first_of (making_reasons level seed room_public room_private) ≡ 0) × (room_report ≡ report_bytes)
  making_door_clear none =
      let is = all_clear _ _ (making_numbered _ _ _ _) (sym making_door_first ∙ none) in
      (is.0, agree _ _ (clear _ _ (lit< tt) is.1).0)

  pub making_door_numbered : Numbered (making_door_reasons level seed room_public room_private room_report)
  unfolding making_door_reasons
  making_door_numbered = (lit< tt, (lit< tt, tt))

-- wrapping
pub record WrappingClear (level : ℕ) (h m : List ℕ) (room_ciphertext room_key : ℕ) : Type 0 where
  pub level_known : known level ≡ true
  pub public_size : length h ≡ poly_bytes (level_of level)
  pub message_size : length m ≡ message_bytes
  pub ciphertext_room : room_ciphertext ≡ ciphertext_bytes (level_of level)
  pub key_room : room_key ≡ message_bytes
  pub no_pad : pad_set (level_of level).r h ≡ false

module _ {level : ℕ} {h m : List ℕ} {room_ciphertext room_key : ℕ} where
  pub wrapping_clear : first_of (wrapping_reasons level h m room_ciphertext room_key) ≡ 0 → WrappingClear level h m room_ciphertext room_key
  unfolding wrapping_reasons
  wrapping_clear none =
      let first = clear _ _ (lit< tt) none in
      let second = clear _ _ (lit< tt) first.1 in
      let two = both_false _ _ second.0 in
      let one = both_false _ _ two.0 in
      let zero = both_false _ _ one.0 in
      record {
        level_known = not-false _ first.0;
        public_size = agree _ _ zero.0;
        message_size = agree _ _ zero.1;
        ciphertext_room = agree _ _ one.1;
        key_room = agree _ _ two.1;
        no_pad = (clear _ _ (lit< tt) second.1).0;
      }

  pub wrapping_none : WrappingClear level h m room_ciphertext room_key → first_of (wrapping_reasons level h m room_ciphertext room_key) ≡ 0
  unfolding wrapping_reasons first_of
  wrapping_none is =
      rw (
        is.level_known,
        fits _ _ is.public_size,
        fits _ _ is.message_size,
        fits _ _ is.ciphertext_room,
        fits _ _ is.key_room,
        is.no_pad,
      )

-- a polynomial's pad and a private key
pub record ContentClear (l : Level) (key polynomial : List ℕ) : Type 0 where
  pub no_pad : pad_set l.r polynomial ≡ false
  pub good_positions : good_key l key ≡ true

module _ {l : Level} {key polynomial : List ℕ} where
  content_clear : first_of (content_reasons l key polynomial) ≡ 0 → ContentClear l key polynomial
  unfolding content_reasons
  content_clear none =
      let first = clear _ _ (lit< tt) none in
      record { no_pad = first.0; good_positions = not-false _ (clear _ _ (lit< tt) first.1).0 }

  content-none : ContentClear l key polynomial → first_of (content_reasons l key polynomial) ≡ 0
  unfolding content_reasons first_of
  content-none is = rw (is.no_pad, is.good_positions)

-- decoding
pub record DecodingClear (level : ℕ) (key s : List ℕ) (room0 room1 : ℕ) : Type 0 where
  pub level_known : known level ≡ true
  pub key_size : length key ≡ private_bytes (level_of level)
  pub syndrome_size : length s ≡ poly_bytes (level_of level)
  pub room0_is : room0 ≡ poly_bytes (level_of level)
  pub room1_is : room1 ≡ poly_bytes (level_of level)
  pub content : ContentClear (level_of level) key s

pub decoding_clear : {level : ℕ} {key s : List ℕ} {room0 room1 : ℕ} → first_of (decoding_reasons level key s room0 room1) ≡ 0
    → DecodingClear level key s room0 room1
unfolding decoding_reasons
decoding_clear none =
    let first = clear _ _ (lit< tt) none in
    let second = clear _ _ (lit< tt) first.1 in
    let two = both_false _ _ second.0 in
    let one = both_false _ _ two.0 in
    let zero = both_false _ _ one.0 in
    record {
      level_known = not-false _ first.0;
      key_size = agree _ _ zero.0;
      syndrome_size = agree _ _ zero.1;
      room0_is = agree _ _ one.1;
      room1_is = agree _ _ two.1;
      content = content_clear second.1;
    }

pub decoding_numbered : (level : ℕ) (key s : List ℕ) (room0 room1 : ℕ) → Numbered (decoding_reasons level key s room0 room1)
unfolding decoding_reasons content_reasons
decoding_numbered level key s room0 room1 = (lit< tt, (lit< tt, (lit< tt, (lit< tt, tt))))

-- opening
pub record OpeningClear (level : ℕ) (key c : List ℕ) (room_key : ℕ) : Type 0 where
  pub level_known : known level ≡ true
  pub key_size : length key ≡ private_bytes (level_of level)
  pub ciphertext_size : length c ≡ ciphertext_bytes (level_of level)
  pub key_room : room_key ≡ message_bytes
  pub content : ContentClear (level_of level) key (take (poly_bytes (level_of level)) c)

module _ {level : ℕ} {key c : List ℕ} {room_key : ℕ} where
  pub opening_clear : first_of (opening_reasons level key c room_key) ≡ 0 → OpeningClear level key c room_key
  unfolding opening_reasons
  opening_clear none =
      let first = clear _ _ (lit< tt) none in
      let second = clear _ _ (lit< tt) first.1 in
      let one = both_false _ _ second.0 in
      let zero = both_false _ _ one.0 in
      record {
        level_known = not-false _ first.0;
        key_size = agree _ _ zero.0;
        ciphertext_size = agree _ _ zero.1;
        key_room = agree _ _ one.1;
        content = content_clear second.1;
      }

  pub opening_none : OpeningClear level key c room_key → first_of (opening_reasons level key c room_key) ≡ 0
  unfolding opening_reasons first_of
  opening_none is =
      rw (is.level_known, fits _ _ is.key_size, fits _ _ is.ciphertext_size, fits _ _ is.key_room) (content-none is.content)
