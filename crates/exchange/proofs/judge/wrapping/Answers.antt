-- `wrapping` goes down the column of wrapping.
use Rattle.hashing.specs.Answers.{differs, first_of}
use Rattle.exchange.specs.Promises.{wrapping_reasons}
use Rattle.exchange.proofs.judge.wrapping.Goals as goal

pub returns-then-not-known : goal.returns-then-not-known
unfolding wrapping_reasons first_of
returns-then-not-known c = rw (← c.known.ensures, c.if-not-known.true)

pub returns-then-public_key-polynomial : goal.returns-then-public_key-polynomial
unfolding wrapping_reasons first_of differs
returns-then-public_key-polynomial c =
    rw (
      ← c.known.ensures,
      c.if-not-known.false,
      ← c.ciphertext.ensures,
      ← c.polynomial.ensures,
      c.if-public_key-polynomial.true,
    )

pub returns-then-pad_set : goal.returns-then-pad_set
unfolding wrapping_reasons first_of differs
returns-then-pad_set c =
    rw (
      ← c.known.ensures,
      c.if-not-known.false,
      ← c.ciphertext.ensures,
      ← c.polynomial.ensures,
      c.if-public_key-polynomial.false,
      ← c.block.ensures,
      ← c.pad_set.ensures,
      c.if-pad_set.true,
    )

pub returns : goal.returns
unfolding wrapping_reasons first_of differs
returns c =
    rw (
      ← c.known.ensures,
      c.if-not-known.false,
      ← c.ciphertext.ensures,
      ← c.polynomial.ensures,
      c.if-public_key-polynomial.false,
      ← c.block.ensures,
      ← c.pad_set.ensures,
      c.if-pad_set.false,
    )
