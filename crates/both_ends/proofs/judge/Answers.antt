-- `judge` goes down the column.
use Rattle.hashing.specs.Answers.{differs, first_of}
use Rattle.both_ends.specs.BothEnds.{both_ends_reasons}
use Rattle.both_ends.proofs.judge.Goals as goal

pub returns-then-not-known : goal.returns-then-not-known
unfolding both_ends_reasons first_of
returns-then-not-known c = rw (← c.known.ensures, c.if-not-known.true)

pub returns-then-seed-message : goal.returns-then-seed-message
unfolding both_ends_reasons first_of differs
returns-then-seed-message c =
    rw (← c.known.ensures, c.if-not-known.false, c.if-seed-message.true)

pub returns : goal.returns
unfolding both_ends_reasons first_of differs
returns c =
    rw (← c.known.ensures, c.if-not-known.false, c.if-seed-message.false)
