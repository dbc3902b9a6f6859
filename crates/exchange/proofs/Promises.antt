-- The promise of each public entry of this crate admits just one outcome: one answer, and one content for each output; and key making
-- never gives 5. Assumes nothing.
use mathlib.Core.Path.{◌≡◌, refl, sym, ◌∙◌}
use mathlib.Core.Bool.{Bool, true, false, not, ◌||◌}
use mathlib.Core.List.{List, [], ◌∷◌}
use Prim.Native.Nat.{ℕ}
use native.Mathlib.Omega.{arith}
use lib.ListN.{length}
use Rattle.std.proofs.Common.{Result}
use Rattle.hashing.specs.Answers.{Reason, Output, differs, first_of, settle}
use Rattle.hashing.specs.Answers.Outcome.{gives}
use Rattle.hashing.specs.declared.refusal.Refusal.{Refusal}
use Rattle.hashing.proofs.Answers.{one_output, two_outputs, three_outputs, one_number, two_numbers}
use Rattle.ring.specs.Levels.{known, level_of, seed_bytes, poly_bytes, private_bytes}
use Rattle.ring.specs.Polynomials.{has_inverse}
use Rattle.exchange.specs.declared.keys.KeyCounts.{KeyCounts}
use Rattle.exchange.specs.declared.record.Record.{Record}
use Rattle.exchange.specs.Doors.{MakeKeyDoorPromise}
use Rattle.exchange.specs.Promises.{ErrorOfPromise, ErrorCountPromise, MakeKeyPromise, making_reasons, work_reasons, make_key_says, counts_of, KeyCountPromise, FairPromise, FairCountPromise, WrapPromise, DecodePromise, RoundsPromise, OpenPromise}
use Rattle.exchange.specs.Records.{RecordPromise}
use Rattle.exchange.specs.Scheme.{h0_of, key_ran_out}
use Rattle.exchange.proofs.keys.Laws.{h0_inverts}
use Rattle.exchange.proofs.record.Laws.{outcome_of-one}

pub error_of_just_one : (level : ℕ) (m : List ℕ) (room0 room1 : ℕ) {r r' : ℕ} {e0 e0' e1 e1' : List ℕ}
    → ErrorOfPromise level m room0 room1 r e0 e1 → ErrorOfPromise level m room0 room1 r' e0' e1'
    → (r ≡ r') × (e0 ≡ e0') × (e1 ≡ e1')
error_of_just_one level m room0 room1 = two_outputs

pub error_count_just_one : (level : ℕ) (m : List ℕ) (room0 room1 : ℕ) {n n' : ℕ}
    → ErrorCountPromise level m room0 room1 n → ErrorCountPromise level m room0 room1 n' → n ≡ n'
error_count_just_one level m room0 room1 = one_number

pub make_key_just_one : (level : ℕ) (seed : List ℕ) (room_public room_private : ℕ) {r r' : ℕ} {public public' private private' : List ℕ}
    → MakeKeyPromise level seed room_public room_private r public private → MakeKeyPromise level seed room_public room_private r' public' private'
    → (r ≡ r') × (public ≡ public') × (private ≡ private')
make_key_just_one level seed room_public room_private = two_outputs

-- the answer is the first reason's number
answer_is : (reasons : List Reason) (outputs : List Output) {n : ℕ} {contents : List (List ℕ)} → settle reasons outputs ≡ gives n contents
    → first_of reasons ≡ n
unfolding settle
answer_is reasons outputs says = cc

-- CR 9: the line for 5 never applies, since h0 has an inverse wherever no words ran out
pub make_key_never_5 : (level : ℕ) (seed : List ℕ) (room_public room_private : ℕ) {outputs : List (List ℕ)}
    → make_key_says level seed room_public room_private ≡ gives 5 outputs → ⊥
unfolding make_key_says making_reasons work_reasons first_of
make_key_never_5 level seed room_public room_private says =
    let l = level_of level in
    let wrong = differs (length seed) seed_bytes || differs room_public (poly_bytes l) || differs room_private (private_bytes l) in
    go (not (known level)) wrong (key_ran_out l seed) refl (answer_is _ _ says)
  where
    go : (unknown wrong out : Bool) → key_ran_out (level_of level) seed ≡ out →
        first_of
        (record { applies = unknown; number = 1 }
        ∷ record { applies = wrong; number = 2 }
        ∷ record { applies = out; number = 10 }
        ∷ record { applies = not (has_inverse (level_of level).r (h0_of (level_of level) seed)); number = 5 }
        ∷ [])
        ≡ 5 → ⊥
    go true wrong out _ five = omega arith
    go false true out _ five = omega arith
    go false false true _ five = omega arith
    go false false false enough five =
        let none : ◌≡◌ {A = ℕ} 0 5 = rw (h0_inverts level seed enough) at five in omega arith

pub key_count_just_one : (level : ℕ) (seed : List ℕ) (room_public room_private : ℕ) (n n' : KeyCounts)
    → KeyCountPromise level seed room_public room_private n → KeyCountPromise level seed room_public room_private n'
    → (n.used0 ≡ n'.used0) × (n.passed0 ≡ n'.passed0) × (n.used1 ≡ n'.used1) × (n.passed1 ≡ n'.passed1)
key_count_just_one level seed room_public room_private n n' p q =
    let same : counts_of n ≡ counts_of n' = p ∙ sym q in (cc, cc, cc, cc)

pub fair_just_one : (level : ℕ) (words : List ℕ) (room : ℕ) {r r' : ℕ} {out out' : List ℕ}
    → FairPromise level words room r out → FairPromise level words room r' out' → (r ≡ r') × (out ≡ out')
fair_just_one level words room = one_output

pub fair_count_just_one : (level : ℕ) (words : List ℕ) (room : ℕ) {used used' passed passed' : ℕ}
    → FairCountPromise level words room used passed → FairCountPromise level words room used' passed' → (used ≡ used') × (passed ≡ passed')
fair_count_just_one level words room = two_numbers

pub make_key_door_just_one : (level : ℕ) (seed : List ℕ) (room_public room_private room_report : ℕ) {r r' : ℕ}
    {public public' private private' report report' : List ℕ}
    → MakeKeyDoorPromise level seed room_public room_private room_report r public private report
    → MakeKeyDoorPromise level seed room_public room_private room_report r' public' private' report'
    → (r ≡ r') × (public ≡ public') × (private ≡ private') × (report ≡ report')
make_key_door_just_one level seed room_public room_private room_report = three_outputs

pub wrap_just_one : (level : ℕ) (h m : List ℕ) (room_ciphertext room_key : ℕ) {r r' : ℕ} {c c' key key' : List ℕ}
    → WrapPromise level h m room_ciphertext room_key r c key → WrapPromise level h m room_ciphertext room_key r' c' key'
    → (r ≡ r') × (c ≡ c') × (key ≡ key')
wrap_just_one level h m room_ciphertext room_key = two_outputs

pub decode_just_one : (level : ℕ) (key s : List ℕ) (room0 room1 : ℕ) {r r' : ℕ} {e0 e0' e1 e1' : List ℕ}
    → DecodePromise level key s room0 room1 r e0 e1 → DecodePromise level key s room0 room1 r' e0' e1'
    → (r ≡ r') × (e0 ≡ e0') × (e1 ≡ e1')
decode_just_one level key s room0 room1 = two_outputs

pub decode_early_just_one : (level : ℕ) (key s : List ℕ) (room0 room1 : ℕ) {r r' rounds rounds' : ℕ} {e0 e0' e1 e1' : List ℕ}
    → DecodePromise level key s room0 room1 r e0 e1 × RoundsPromise level key s room0 room1 rounds
    → DecodePromise level key s room0 room1 r' e0' e1' × RoundsPromise level key s room0 room1 rounds'
    → ((r ≡ r') × (e0 ≡ e0') × (e1 ≡ e1')) × (rounds ≡ rounds')
decode_early_just_one level key s room0 room1 one two = (two_outputs one.0 two.0, one_number one.1 two.1)

pub open_just_one : (level : ℕ) (key c : List ℕ) (room_key : ℕ) {r r' : ℕ} {session_key session_key' : List ℕ}
    → OpenPromise level key c room_key r session_key → OpenPromise level key c room_key r' session_key'
    → (r ≡ r') × (session_key ≡ session_key')
open_just_one level key c room_key = one_output

-- one outcome, and so one reading
pub read_record_just_one : (bytes : List ℕ) (one other : Result Record Refusal) → RecordPromise bytes one → RecordPromise bytes other → one ≡ other
read_record_just_one bytes one other p q = outcome_of-one one other (p ∙ sym q)
