-- A line of the record reader, in its turn. Assumes nothing.
use mathlib.Core.Path.{◌≡◌, sym, ap, ◌∙◌}
use mathlib.Core.Bool.{true, false, ◌||◌}
use mathlib.Core.List.{List}
use Prim.Native.Nat.{ℕ, ◌/◌, ◌%◌, ◌+◌, ◌<◌}
use borrow.Author.Tests.{ne_eqb}
use Rattle.std.proofs.Common.{Ok, Err}
use lib.ListN.{length, drop}
use Rattle.hashing.specs.Answers.{differs, first_of, settle}
use Rattle.hashing.specs.Refusals as refusals
use Rattle.hashing.specs.declared.refusal.Refusal.{Refusal}
use Rattle.hashing.proofs.Answers.{numbered, settled}
use Rattle.exchange.specs.Records.{Lists, body_of, kind_of, outcome_of, record_reasons, read_record_says, thing_number}
use Rattle.exchange.specs.declared.record.Line.{Line}
use Rattle.exchange.specs.declared.record.Record.{Record}
use Rattle.batch.specs.Stops.{stop}
use Rattle.batch.specs.Triples.{turn}
use Rattle.batch.specs.declared.stop.Stop.TheVariants.{OutOfTurn, Refused}
use Rattle.batch.proofs.Stops.{stop_number}
use Rattle.batch.proofs.Turns.{out_of_turn, picked, turn_is}

module _ (thing level : ℕ) (bytes : List ℕ) (at : ℕ) (line : Line) (more : at < length bytes) (lists : Lists bytes at line) where
  pub refused_turn : (refusal : Refusal) → line.reading ≡ Err refusal → Err (Refused refusal) ≡ turn thing level bytes at
  unfolding picked outcome_of read_record_says settle
  refused_turn refusal is =
      let says = rw is at lists.says in
      let first : refusals.number refusal ≡ first_of (record_reasons (drop at bytes)) = cc in
      rw (turn_is thing level bytes at more, ← first, ne_eqb (refusals.number refusal) 0 (numbered refusal), picked)
      (ap Err (sym (stop_number (Refused refusal)) ∙ ap stop first))

  module _ (found : Record) (is : line.reading ≡ Ok found) where
    none : first_of (record_reasons (drop at bytes)) ≡ 0
    unfolding outcome_of read_record_says
    none = (settled (record_reasons (drop at bytes)) _ (sym (rw is at lists.says))).0

    values : (found.kind.level ≡ kind_of (drop at bytes) / 256) × (thing_number found.kind.thing ≡ kind_of (drop at bytes) % 256)
        × (found.body ≡ body_of (drop at bytes))
    unfolding outcome_of read_record_says
    values = let all = (settled (record_reasons (drop at bytes)) _ (sym (rw is at lists.says))).1 in (cc, cc, cc)

    pub other_turn : differs (thing_number found.kind.thing) thing || differs found.kind.level level ≡ true
        → Err OutOfTurn ≡ turn thing level bytes at
    unfolding picked out_of_turn
    other_turn out = rw (turn_is thing level bytes at more, none, ← values.1, ← values.0, out)

    pub whole_turn : differs (thing_number found.kind.thing) thing || differs found.kind.level level ≡ false
        → Ok line.next ≡ turn thing level bytes at
    unfolding picked out_of_turn
    whole_turn out =
        let follows = rw is at lists.follows in
        rw (turn_is thing level bytes at more, none, ← values.1, ← values.0, out) (ap Ok (follows ∙ ap (λ (n : ℕ). at + 6 + n) values.2))
