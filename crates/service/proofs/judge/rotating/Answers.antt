-- `rotating` goes down the column of rotating.
use mathlib.Core.Path.{◌≡◌, ◌∙◌}
use Prim.Native.Nat.{◌≤◌, ◌<◌}
use native.Mathlib.Omega.{arith}
use borrow.Author.Tests.{le-leb, lt-leb}
use Rattle.hashing.specs.Answers.{differs, first_of}
use Rattle.hashing.proofs.Answers.{agree}
use Rattle.ring.specs.Levels.{level_of}
use Rattle.ring.proofs.Bools.{both_false}
use Rattle.exchange.specs.decoder.PrivateKey.{good_key}
use Rattle.exchange.proofs.decoder.Laws.{read_good}
use Rattle.service.specs.Rotation.{rotate_key_reasons}
use Rattle.service.proofs.judge.rotating.Goals as goal
use Rattle.service.proofs.judge.rotating.Goals.{After-is_good}

pub returns-then-not-known : goal.returns-then-not-known
unfolding rotate_key_reasons first_of
returns-then-not-known c = rw (← c.known.ensures, c.if-not-known.true)

pub returns-then-private_key-n : goal.returns-then-private_key-n
unfolding rotate_key_reasons first_of differs
returns-then-private_key-n c =
    rw (← c.known.ensures, c.if-not-known.false, ← c.private_key-n.ensures, c.if-private_key-n.true)

pub read_key-requires : goal.read_key-requires
unfolding differs
read_key-requires c = agree _ _ (both_false _ _ c.if-private_key-n.false).0 ∙ c.private_key-n.ensures

good_is : (c : After-is_good) →
    let given = c.args in
    c.is_good.result ≡ good_key (level_of given.level) given.private_key.now
good_is c = read_good _ c.read_key.result _ (c.read_key.ensures.fact_1, c.read_key.ensures.fact_2) c.is_good.ensures

pub returns-then-not-is_good : goal.returns-then-not-is_good
unfolding rotate_key_reasons first_of differs
returns-then-not-is_good c =
    rw (
      ← c.known.ensures,
      c.if-not-known.false,
      ← c.private_key-n.ensures,
      c.if-private_key-n.false,
      ← good_is (goal.at.returns-then-not-is_good c).After-is_good,
      c.if-not-is_good.true,
    )

pub returns-then-block-k : goal.returns-then-block-k
unfolding rotate_key_reasons first_of differs
returns-then-block-k c =
    let past : (level_of c.args.level).r ≤ c.args.k = omega (arith, c.if-block-k.true, c.block.ensures) in
    rw (
      ← c.known.ensures,
      c.if-not-known.false,
      ← c.private_key-n.ensures,
      c.if-private_key-n.false,
      ← good_is (goal.at.returns-then-block-k c).After-is_good,
      c.if-not-is_good.false,
      le-leb _ _ past,
    )

pub returns : goal.returns
unfolding rotate_key_reasons first_of differs
returns c =
    let within : c.args.k < (level_of c.args.level).r = omega (arith, c.if-block-k.false, c.block.ensures) in
    rw (
      ← c.known.ensures,
      c.if-not-known.false,
      ← c.private_key-n.ensures,
      c.if-private_key-n.false,
      ← good_is (goal.at.returns c).After-is_good,
      c.if-not-is_good.false,
      lt-leb _ _ within,
    )
