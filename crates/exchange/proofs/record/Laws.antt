-- Laws of the record reader's definitions. Assumes nothing.
use mathlib.Core.Path.{◌≡◌, refl, sym, ap, ◌∙◌}
use mathlib.Core.Bool.{Bool, true, false, ◌&&◌}
use mathlib.Core.List.{List, [], ◌∷◌}
use Rattle.std.proofs.Common.{Result, Ok, Err}
use Prim.Native.Nat.{ℕ, ◌+◌, ◌-◌, ◌≤◌, ◌<◌}
use native.Mathlib.Omega.{arith}
use lib.Dec.{leb, ltb, eqb, lit<}
use lib.ListN.{length, get_or}
use borrow.Author.Tests.{leb-true, lt-leb, ltb-false, ne_eqb}
use Rattle.hashing.specs.Answers.{Outcome}
use Rattle.hashing.specs.Answers.Outcome.{gives}
use Rattle.hashing.specs.Refusals.{number}
use Rattle.hashing.specs.declared.refusal.Refusal.{Refusal}
use Rattle.hashing.specs.declared.refusal.Refusal.TheVariants.{UnknownLevel, WrongLength, PadBit, BadPosition, NoInverse, Undecoded, CutRecord, UnknownKind, WrongBody, WordsRanOut, AnotherTag, AnotherKart, OldCounter, TurnTooFar}
use Rattle.hashing.proofs.Answers.{clear, numbered, settled}
use Rattle.exchange.specs.declared.record.Record.{Record}
use Rattle.exchange.specs.declared.record.Thing.{Thing}
use Rattle.exchange.specs.declared.record.Thing.TheVariants.{Seed, PublicKey, PrivateKey, Ciphertext, Message, SessionKey}
use Rattle.exchange.specs.Records.{RecordPromise, refusal_of, thing_number, body_of, outcome_of, record_reasons, read_record_says}
use Rattle.ring.proofs.Bools.{both_false}

-- which numbers name a thing
pub a_thing : (thing : Thing) → leb 1 (thing_number thing) && leb (thing_number thing) 6 ≡ true
a_thing Seed = refl
a_thing PublicKey = refl
a_thing PrivateKey = refl
a_thing Ciphertext = refl
a_thing Message = refl
a_thing SessionKey = refl

pub no_thing : (n : ℕ) → (1 ≤ n → 6 < n) → leb 1 n && leb n 6 ≡ false
no_thing n above = go (leb 1 n) refl
  where
    go : (t : Bool) → leb 1 n ≡ t → t && leb n 6 ≡ false
    go true e = lt-leb n 6 (above (leb-true 1 n e))
    go false e = refl

-- a good record lies within its bytes
pub good_within : (bytes : List ℕ) (x : Record) → RecordPromise bytes (Ok x) → 6 + x.body ≤ length bytes
unfolding outcome_of read_record_says record_reasons
good_within bytes x e =
    let all = settled (record_reasons bytes) _ (sym e) in
    let whole = both_false (ltb (length bytes) 6) (ltb (length bytes - 6) (body_of bytes)) (clear _ _ (lit< tt) all.0).0 in
    let body : x.body ≡ body_of bytes = cc all.1 in
    omega (arith, ltb-false (length bytes) 6 whole.0, ltb-false (length bytes - 6) (body_of bytes) whole.1)

-- ---- a refusal is known from its number

pub refusal_of_number : (refusal : Refusal) → refusal_of (number refusal) ≡ refusal
refusal_of_number UnknownLevel = refl
refusal_of_number WrongLength = refl
refusal_of_number PadBit = refl
refusal_of_number BadPosition = refl
refusal_of_number NoInverse = refl
refusal_of_number Undecoded = refl
refusal_of_number CutRecord = refl
refusal_of_number UnknownKind = refl
refusal_of_number WrongBody = refl
refusal_of_number WordsRanOut = refl
refusal_of_number AnotherTag = refl
refusal_of_number AnotherKart = refl
refusal_of_number OldCounter = refl
refusal_of_number TurnTooFar = refl

-- ---- a reading is known from its outcome

thing_at : ℕ → Thing
thing_at n = get_or (Seed ∷ PublicKey ∷ PrivateKey ∷ Ciphertext ∷ Message ∷ SessionKey ∷ []) (n - 1) Seed

thing_at_number : (thing : Thing) → thing_at (thing_number thing) ≡ thing
unfolding thing_at
thing_at_number Seed = refl
thing_at_number PublicKey = refl
thing_at_number PrivateKey = refl
thing_at_number Ciphertext = refl
thing_at_number Message = refl
thing_at_number SessionKey = refl

reading_of : Outcome → Result Record Refusal
reading_of (gives answer values) =
    let value : ℕ → ℕ = λ i. get_or (get_or values 0 []) i 0 in
    elim (eqb answer 0) [
      | true ↦ Ok (record { kind = record { level = value 0; thing = thing_at (value 1) }; body = value 2 })
      | false ↦ Err (refusal_of answer)
    ]

reading_of_outcome : (reading : Result Record Refusal) → reading_of (outcome_of reading) ≡ reading
unfolding reading_of outcome_of
reading_of_outcome (Ok x) =
    ap (λ (thing : Thing). Ok (record { kind = record { level = x.kind.level; thing = thing }; body = x.body })) (thing_at_number x.kind.thing)
reading_of_outcome (Err refusal) = rw (reading_of, ne_eqb (number refusal) 0 (numbered refusal)) (ap Err (refusal_of_number refusal))

pub outcome_of-one : (x y : Result Record Refusal) → outcome_of x ≡ outcome_of y → x ≡ y
outcome_of-one x y e = sym (reading_of_outcome x) ∙ ap reading_of e ∙ reading_of_outcome y
