-- `error` goes down the column of H.
use Rattle.hashing.specs.Answers.{differs, first_of}
use Rattle.exchange.specs.Promises.{error_reasons}
use Rattle.exchange.proofs.judge.error.Goals as goal

pub returns-then-not-known : goal.returns-then-not-known
unfolding error_reasons first_of
returns-then-not-known c = rw (← c.known.ensures, c.if-not-known.true)

pub returns-then-message-room0 : goal.returns-then-message-room0
unfolding error_reasons first_of differs
returns-then-message-room0 c =
    rw (← c.known.ensures, c.if-not-known.false, ← c.polynomial-n.ensures, c.if-message-room0.true)

pub returns : goal.returns
unfolding error_reasons first_of differs
returns c =
    rw (← c.known.ensures, c.if-not-known.false, ← c.polynomial-n.ensures, c.if-message-room0.false)
