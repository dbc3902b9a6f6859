-- `opening` goes down the column of opening; c0 is the front of the ciphertext.
use Rattle.hashing.specs.Answers.{differs, first_of}
use Rattle.exchange.specs.Promises.{opening_reasons}
use Rattle.exchange.proofs.judge.opening.Goals as goal
use Rattle.exchange.proofs.judge.opening.Goals.{Else-private_key-ciphertext}

pub returns-then-not-known : goal.returns-then-not-known
unfolding opening_reasons first_of
returns-then-not-known c = rw (← c.known.ensures, c.if-not-known.true)

pub returns-then-private_key-ciphertext : goal.returns-then-private_key-ciphertext
unfolding opening_reasons first_of differs
returns-then-private_key-ciphertext c =
    rw (
      ← c.known.ensures,
      c.if-not-known.false,
      ← c.ciphertext.ensures,
      ← c.private_key.ensures,
      c.if-private_key-ciphertext.true,
    )

pub returns : goal.returns
unfolding opening_reasons first_of differs
returns c =
    rw (
      ← c.known.ensures,
      c.if-not-known.false,
      ← c.ciphertext.ensures,
      ← c.private_key.ensures,
      c.if-private_key-ciphertext.false,
    )
    (rw c.polynomial-n.ensures at c.contents.ensures)
