-- `packing` goes down the column of packing.
use mathlib.Core.Path.{◌≡◌}
use Rattle.hashing.specs.Answers.{differs, first_of}
use Rattle.ring.specs.Levels.{level_of}
use Rattle.exchange.specs.decoder.PrivateKey.{good_key}
use Rattle.exchange.proofs.decoder.Laws.{read_good}
use Rattle.packing.specs.Promises.{pack_reasons}
use Rattle.packing.proofs.judge.packing.Goals as goal
use Rattle.packing.proofs.judge.packing.Goals.{After-is_good}

pub returns-then-not-known : goal.returns-then-not-known
unfolding pack_reasons first_of
returns-then-not-known c = rw (← c.known.ensures, c.if-not-known.true)

pub returns-then-private_key-room : goal.returns-then-private_key-room
unfolding pack_reasons first_of differs
returns-then-private_key-room c =
    rw (
      ← c.known.ensures,
      c.if-not-known.false,
      ← c.private_key.ensures,
      ← c.packed_key.ensures,
      c.if-private_key-room.true,
    )

good_is : (c : After-is_good) →
    let given = c.args in
    c.is_good.result ≡ good_key (level_of given.level) given.private_key.now
good_is c = read_good _ c.read_key.result _ (c.read_key.ensures.fact_1, c.read_key.ensures.fact_2) c.is_good.ensures

pub returns-then-not-is_good : goal.returns-then-not-is_good
unfolding pack_reasons first_of differs
returns-then-not-is_good c =
    rw (
      ← c.known.ensures,
      c.if-not-known.false,
      ← c.private_key.ensures,
      ← c.packed_key.ensures,
      c.if-private_key-room.false,
      ← good_is (goal.at.returns-then-not-is_good c).After-is_good,
      c.if-not-is_good.true,
    )

pub returns : goal.returns
unfolding pack_reasons first_of differs
returns c =
    rw (
      ← c.known.ensures,
      c.if-not-known.false,
      ← c.private_key.ensures,
      ← c.packed_key.ensures,
      c.if-private_key-room.false,
      ← good_is (goal.at.returns c).After-is_good,
      c.if-not-is_good.false,
    )
