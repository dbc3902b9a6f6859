-- The record reader: document 01's numbers and values for each reading, and what a reading of some bytes must be. Assumes nothing.
use Rattle.std.specs.Prelude.{◌≡◌, Bool, true, false, not, ◌&&◌, ◌||◌, List, [], ◌∷◌, ℕ, ◌+◌, ◌-◌, ◌/◌, ◌%◌, ◌≤◌, ◌<◌, leb, ltb, length, get_or, take, drop, Result, Ok, Err, MatchResult}
use Rattle.hashing.specs.Answers.{Reason, Outcome, differs, settle}
use Rattle.hashing.specs.Answers.Outcome.{gives}
use Rattle.ring.specs.Levels.{Level, known, level_of, message_bytes, seed_bytes, poly_bytes, ciphertext_bytes, private_bytes}
use Rattle.hashing.specs.Refusals.{number}
use Rattle.hashing.specs.declared.refusal.Refusal.{Refusal}
use Rattle.hashing.specs.declared.refusal.Refusal.TheVariants.{UnknownLevel, WrongLength, PadBit, BadPosition, NoInverse, Undecoded, CutRecord, UnknownKind, WrongBody, WordsRanOut, AnotherTag, AnotherKart, OldCounter, TurnTooFar}
use Rattle.exchange.specs.declared.record.Kind.{Kind}
use Rattle.exchange.specs.declared.record.Line.{Line}
use Rattle.exchange.specs.declared.record.Record.{Record}
use Rattle.exchange.specs.declared.record.Thing.{Thing}
use Rattle.exchange.specs.declared.record.Thing.TheVariants.{Seed, PublicKey, PrivateKey, Ciphertext, Message, SessionKey}
use Rattle.ring.specs.Bytes.{little_endian}

-- "Things: 1 seed, 2 public key, 3 private key, 4 ciphertext, 5 message, 6 session key"
abbrev pub thing_number : Thing → ℕ
thing_number Seed = 1
thing_number PublicKey = 2
thing_number PrivateKey = 3
thing_number Ciphertext = 4
thing_number Message = 5
thing_number SessionKey = 6

-- the refusal of a number, which is `number` read backwards (`refusal_of_number`, proofs/record/Laws.antt); none has 14
abbrev pub refusal_of : ℕ → Refusal
refusal_of n =
    get_or
    (UnknownLevel ∷ WrongLength ∷ PadBit ∷ BadPosition ∷ NoInverse ∷ Undecoded ∷ CutRecord ∷ UnknownKind ∷ WrongBody
    ∷ WordsRanOut ∷ AnotherTag ∷ AnotherKart ∷ OldCounter ∷ TurnTooFar ∷ TurnTooFar ∷ [])
    (n - 1) UnknownLevel

-- the length of each, by its number
unfoldable pub body_bytes : Level → ℕ → ℕ
body_bytes l thing =
    get_or (seed_bytes ∷ poly_bytes l ∷ private_bytes l ∷ ciphertext_bytes l ∷ message_bytes ∷ message_bytes ∷ []) (thing - 1) 0

-- "The record answer is either a refusal number or a level, a thing and a body length", "0 0 0 on refusal"
unfoldable pub outcome_of : Result Record Refusal → Outcome
outcome_of (Ok read) = gives 0 ((read.kind.level ∷ thing_number read.kind.thing ∷ read.body ∷ []) ∷ [])
outcome_of (Err refusal) = gives (number refusal) ((0 ∷ 0 ∷ 0 ∷ []) ∷ [])

-- "Record: body length (4 bytes, little-endian), kind (2 bytes, little-endian), body"
unfoldable pub body_of : List ℕ → ℕ
body_of bytes = little_endian (take 4 bytes)

unfoldable pub kind_of : List ℕ → ℕ
kind_of bytes = little_endian (take 2 (drop 4 bytes))

-- "Kind is 256 × level + thing"
unfoldable pub known_kind : ℕ → Bool
known_kind kind = known (kind / 256) && (leb 1 (kind % 256) && leb (kind % 256) 6)

-- the thing of a number, and the thing and the level of a kind; else an unknown kind
abbrev pub NamesThing : ℕ → Result Thing Refusal → Type 0
NamesThing n named =
    MatchResult named (λ thing. thing_number thing ≡ n) (λ refusal. (refusal ≡ UnknownKind) × (1 ≤ n → 6 < n))

abbrev pub NamesKind : ℕ → Result Kind Refusal → Type 0
NamesKind n named =
    MatchResult named
    (λ kind. (known_kind n ≡ true) × (kind.level ≡ n / 256) × (thing_number kind.thing ≡ n % 256))
    (λ refusal. (refusal ≡ UnknownKind) × (known_kind n ≡ false))

-- reading a record: "the body starts at byte 6 and further bytes are not looked at"
unfoldable pub record_reasons : List ℕ → List Reason
record_reasons bytes =
    let body = body_of bytes in
    let kind = kind_of bytes in
    record { applies = ltb (length bytes) 6 || ltb (length bytes - 6) body; number = 7 }
    ∷ record { applies = not (known_kind kind); number = 8 }
    ∷ record { applies = differs body (body_bytes (level_of (kind / 256)) (kind % 256)); number = 9 }
    ∷ []

unfoldable pub read_record_says : List ℕ → Outcome
read_record_says bytes =
    let kind = kind_of bytes in
    settle (record_reasons bytes) (record { room = 3; value = kind / 256 ∷ kind % 256 ∷ body_of bytes ∷ [] } ∷ [])

-- a reading's outcome is this
abbrev pub RecordPromise : List ℕ → Result Record Refusal → Type 0
RecordPromise bytes reading = outcome_of reading ≡ read_record_says bytes

-- listrecords: "answer, level, thing, body bytes (0 0 0 on refusal)" of the record from byte `at` on, and where the next one begins;
-- "up to the end or the first refusal", so a refusal moves to the end
pub record Lists (bytes : List ℕ) (at : ℕ) (line : Line) : Type 0 where
  pub says : outcome_of line.reading ≡ read_record_says (drop at bytes)
  pub follows : line.next ≡ elim line.reading [ Ok read ↦ at + 6 + read.body | Err refusal ↦ length bytes ]
  pub onward : at < line.next
  pub within : line.next ≤ length bytes
