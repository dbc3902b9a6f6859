-- The judge of SHA3-384 tests the length.
use borrow.Author.Tests.{eq-eqb, ne_eqb}
use Rattle.hashing.specs.Answers.{differs, first_of}
use Rattle.hashing.specs.Promises.{sha3_384_reasons}
use Rattle.hashing.proofs.judge_sha3_384.Goals as goal

pub returns-then-room-ne48 : goal.returns-then-room-ne48
unfolding sha3_384_reasons first_of differs
returns-then-room-ne48 c = rw (ne_eqb _ _ c.if-room-ne48.true)

pub returns : goal.returns
unfolding sha3_384_reasons first_of differs
returns c = rw (eq-eqb _ _ c.if-room-ne48.false)
