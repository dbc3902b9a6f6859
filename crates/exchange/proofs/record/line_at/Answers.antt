-- `line_at` hands the reading on; a good record lies within the bytes, so the next one begins after it and not past the end.
use mathlib.Core.Path.{◌≡◌, refl}
use mathlib.Core.List.{List}
use Prim.Native.Nat.{ℕ, ◌+◌, ◌-◌, ◌≤◌}
use native.Mathlib.Nat.{le_of_eq}
use native.Mathlib.Omega.{arith}
use lib.ListN.{length, take, drop, length-drop}
use lib.Seq.{take_all}
use Rattle.std.proofs.Common.{Ok}
use Rattle.exchange.specs.declared.record.Record.{Record}
use Rattle.hashing.specs.Answers.{Outcome}
use Rattle.exchange.specs.Records.{outcome_of, read_record_says}
use Rattle.exchange.proofs.record.Laws.{good_within}
use Rattle.exchange.proofs.record.line_at.Goals as goal

-- the part that was read is all that follows
reading : (at : ℕ) (bytes : List ℕ) (o : Outcome) → o ≡ read_record_says (take (length bytes - at) (drop at bytes)) → o ≡ read_record_says (drop at bytes)
reading at bytes o is = rw (take_all (length bytes - at) (drop at bytes) (le_of_eq (length-drop at bytes))) at is

room : (at : ℕ) (bytes : List ℕ) (found : Record) → at ≤ length bytes → outcome_of (Ok found) ≡ read_record_says (drop at bytes)
    → at + 6 + found.body ≤ length bytes
room at bytes found inside is = omega (arith, length-drop at bytes, good_within (drop at bytes) found is)

pub returns-in-Ok : goal.returns-in-Ok
unfolding outcome_of
returns-in-Ok c =
    let at = c.args.at in
    let bytes = c.args.bytes.now in
    let found = c.in-Ok.record in
    let is = reading at bytes _ c.in-Ok.ensures in
    record { says = is; follows = refl; onward = omega arith; within = room at bytes found (omega arith) is }

pub overflow_add-next-in-Ok : goal.overflow_add-next-in-Ok
overflow_add-next-in-Ok c =
    let at = c.args.at in
    let bytes = c.args.bytes.now in
    let found = c.in-Ok.record in
    let fits = room at bytes found (omega arith) (reading at bytes (outcome_of (Ok found)) c.in-Ok.ensures) in
    omega arith
