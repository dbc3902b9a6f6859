-- `accepting` tests the level, the lengths and the form, and then what was meant.
use mathlib.Core.Path.{sym, ◌∙◌}
use Rattle.std.proofs.lemmas.Result.{err_from_is_err_and}
use Rattle.hashing.specs.Answers.{differs, first_of}
use Rattle.hashing.proofs.Answers.{agree, first_after, first_stays, numbered}
use Rattle.ring.proofs.Bools.{both_false}
use Rattle.maps.specs.Promises.{form_reasons, meant_reasons, accepting_reasons}
use Rattle.maps.proofs.Judged.{form_numbered, form_clear}
use Rattle.maps.proofs.judge.accepting.Goals as goal

pub returns-then-not-known : goal.returns-then-not-known
unfolding accepting_reasons first_of
returns-then-not-known c = rw (← c.known.ensures, c.if-not-known.true)

pub returns-then-session_key-room : goal.returns-then-session_key-room
unfolding accepting_reasons first_of differs
returns-then-session_key-room c = rw (← c.known.ensures, c.if-not-known.false, c.if-session_key-room.true)

pub returns-in_err-form : goal.returns-in_err-form
unfolding accepting_reasons first_of differs
returns-in_err-form c =
    let given = c.args in
    let p = err_from_is_err_and c.from_residual.result c.from_residual.ensures.1 in
    rw (p.1, p.2, ← c.known.ensures, c.if-not-known.false, c.if-session_key-room.false)
    (c.in_err-form.ensures
    ∙ sym (first_stays (form_reasons given.level given.bytes.now) (meant_reasons given.session_key.now given.kart given.bytes.now given.last) (λ none. numbered c.in_err-form.field-0.0 (c.in_err-form.ensures ∙ none))))

pub returns : goal.returns
unfolding accepting_reasons first_of differs
returns c =
    let given = c.args in
    rw (← c.known.ensures, c.if-not-known.false, c.if-session_key-room.false)
    (c.meant.ensures
    ∙ sym (first_after (form_reasons given.level given.bytes.now) (meant_reasons given.session_key.now given.kart given.bytes.now given.last) (form_numbered given.level given.bytes.now) (sym c.in_ok-form.ensures)))

pub meant-requires : goal.meant-requires
unfolding differs
meant-requires c = (
  agree _ _ (both_false _ _ c.if-session_key-room.false).0,
  (form_clear c.args.level c.args.bytes.now (sym c.in_ok-form.ensures)).whole,
)
