-- `unpacking` goes down the column, as far as it shows before the key is unpacked; the row follows the tail.
use mathlib.Core.Path.{◌≡◌, ◌∙◌}
use lib.ListN.{length}
use Rattle.hashing.specs.Answers.{differs, first_of}
use Rattle.hashing.proofs.Answers.{agree}
use Rattle.ring.specs.Levels.{level_of, tail_bytes}
use Rattle.ring.proofs.Bools.{both_false}
use Rattle.exchange.proofs.Parts.{rest_all}
use Rattle.packing.specs.Packing.{packed_bytes, padded}
use Rattle.packing.specs.Promises.{unpack_reasons}
use Rattle.packing.proofs.judge.unpacking.Goals as goal
use Rattle.packing.proofs.judge.unpacking.Goals.{After-pad_set, Else-packed-packed_key}

pub returns-then-not-known : goal.returns-then-not-known
unfolding unpack_reasons first_of
returns-then-not-known c = rw (← c.known.ensures, c.if-not-known.true)

pub returns-then-packed-packed_key : goal.returns-then-packed-packed_key
unfolding unpack_reasons first_of differs
returns-then-packed-packed_key c =
    rw (
      ← c.known.ensures,
      c.if-not-known.false,
      ← c.packed_key.ensures,
      ← c.private_key.ensures,
      c.if-packed-packed_key.true,
    )

-- what the test tests
pad_is : (c : After-pad_set) →
    let given = c.args in
    c.pad_set.result ≡ padded (level_of given.level) given.packed.now
pad_is c =
    let given = c.args in
    rw (c.packed_bits.ensures, rest_all tail_bytes given.packed.now) at c.pad_set.ensures

pub returns-then-pad_set : goal.returns-then-pad_set
unfolding unpack_reasons first_of differs
returns-then-pad_set c =
    rw (
      ← c.known.ensures,
      c.if-not-known.false,
      ← c.packed_key.ensures,
      ← c.private_key.ensures,
      c.if-packed-packed_key.false,
      ← pad_is (goal.at.returns-then-pad_set c).After-pad_set,
      c.if-pad_set.true,
    )

pub returns : goal.returns
unfolding unpack_reasons first_of differs
returns c =
    rw (
      ← c.known.ensures,
      c.if-not-known.false,
      ← c.packed_key.ensures,
      ← c.private_key.ensures,
      c.if-packed-packed_key.false,
      ← pad_is (goal.at.returns c).After-pad_set,
      c.if-pad_set.false,
    )
