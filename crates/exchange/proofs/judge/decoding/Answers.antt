-- `decoding` goes down the column of decoding.
use Rattle.hashing.specs.Answers.{differs, first_of}
use Rattle.exchange.specs.Promises.{decoding_reasons}
use Rattle.exchange.proofs.judge.decoding.Goals as goal

pub returns-then-not-known : goal.returns-then-not-known
unfolding decoding_reasons first_of
returns-then-not-known c = rw (← c.known.ensures, c.if-not-known.true)

pub returns-then-private_key-syndrome : goal.returns-then-private_key-syndrome
unfolding decoding_reasons first_of differs
returns-then-private_key-syndrome c =
    rw (
      ← c.known.ensures,
      c.if-not-known.false,
      ← c.private_key.ensures,
      ← c.polynomial-n.ensures,
      c.if-private_key-syndrome.true,
    )

pub returns : goal.returns
unfolding decoding_reasons first_of differs
returns c =
    rw (
      ← c.known.ensures,
      c.if-not-known.false,
      ← c.private_key.ensures,
      ← c.polynomial-n.ensures,
      c.if-private_key-syndrome.false,
    )
    c.contents.ensures
