-- `making` goes down the column of key making.
use Rattle.hashing.specs.Answers.{differs, first_of}
use Rattle.exchange.specs.Promises.{making_reasons}
use Rattle.exchange.proofs.judge.making.Goals as goal

pub returns-then-not-known : goal.returns-then-not-known
unfolding making_reasons first_of
returns-then-not-known c = rw (← c.known.ensures, c.if-not-known.true)

pub returns-then-seed-room_public : goal.returns-then-seed-room_public
unfolding making_reasons first_of differs
returns-then-seed-room_public c =
    rw (
      ← c.known.ensures,
      c.if-not-known.false,
      ← c.polynomial.ensures,
      ← c.private_key.ensures,
      c.if-seed-room_public.true,
    )

pub returns : goal.returns
unfolding making_reasons first_of differs
returns c =
    rw (
      ← c.known.ensures,
      c.if-not-known.false,
      ← c.polynomial.ensures,
      ← c.private_key.ensures,
      c.if-seed-room_public.false,
    )
