-- `fair` goes down the column of one polynomial from lent words.
use Rattle.hashing.specs.Answers.{differs, first_of}
use Rattle.exchange.specs.Promises.{fair_reasons}
use Rattle.exchange.proofs.judge.fair.Goals as goal

pub returns-then-not-known : goal.returns-then-not-known
unfolding fair_reasons first_of
returns-then-not-known c = rw (← c.known.ensures, c.if-not-known.true)

pub returns-then-count-room : goal.returns-then-count-room
unfolding fair_reasons first_of differs
returns-then-count-room c =
    rw (← c.known.ensures, c.if-not-known.false, ← c.polynomial.ensures, c.if-count-room.true)

pub returns : goal.returns
unfolding fair_reasons first_of differs
returns c =
    rw (← c.known.ensures, c.if-not-known.false, ← c.polynomial.ensures, c.if-count-room.false)
