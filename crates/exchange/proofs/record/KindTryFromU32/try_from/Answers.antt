-- `try_from` tests the level, then the thing.
use mathlib.Core.Path.{refl}
use Rattle.std.proofs.lemmas.Result.{err_from_is_err_and}
use Rattle.exchange.specs.Records.{known_kind}
use Rattle.exchange.proofs.record.Laws.{a_thing, no_thing}
use Rattle.exchange.proofs.record.KindTryFromU32.try_from.Goals as goal

pub returns-then-not-known : goal.returns-then-not-known
unfolding known_kind
returns-then-not-known c = (refl, rw (← c.known.ensures, c.if-not-known.true))

pub returns-in_err-thing : goal.returns-in_err-thing
unfolding known_kind
returns-in_err-thing c =
    let p = err_from_is_err_and c.from_residual.result c.from_residual.ensures.1 in
    let none = c.in_err-thing.ensures in
    rw (p.1, p.2) (none.0, rw (← c.known.ensures, c.if-not-known.false) (no_thing _ none.1))

pub returns : goal.returns
unfolding known_kind
returns c =
    let is = c.in_ok-thing.ensures in
    (rw (← c.known.ensures, c.if-not-known.false, ← is) (a_thing c.in_ok-thing.thing), refl, is)
