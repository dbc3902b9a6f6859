-- `contents` tests the pad, then the positions.
use mathlib.Core.Path.{◌≡◌}
use Rattle.hashing.specs.Answers.{first_of}
use Rattle.ring.specs.Bytes.{pad_set}
use Rattle.ring.specs.Levels.{level_of}
use Rattle.exchange.specs.Promises.{content_reasons}
use Rattle.exchange.specs.decoder.PrivateKey.{good_key}
use Rattle.exchange.proofs.decoder.Laws.{read_good}
use Rattle.exchange.proofs.judge.contents.Goals as goal
use Rattle.exchange.proofs.judge.contents.Goals.{After-is_good, After-pad_set}

-- what the tests test
pad_is : (c : After-pad_set) →
    let given = c.args in c.pad_set.result ≡ pad_set (level_of given.level).r given.polynomial.now
pad_is c = rw c.block.ensures at c.pad_set.ensures

good_is : (c : After-is_good) →
    let given = c.args in
    c.is_good.result ≡ good_key (level_of given.level) given.private_key.now
good_is c = read_good _ c.read_key.result _ (c.read_key.ensures.fact_1, c.read_key.ensures.fact_2) c.is_good.ensures

pub returns-then-pad_set : goal.returns-then-pad_set
unfolding content_reasons first_of
returns-then-pad_set c = rw (← pad_is (goal.at.returns-then-pad_set c).After-pad_set, c.if-pad_set.true)

pub returns-then-not-is_good : goal.returns-then-not-is_good
unfolding content_reasons first_of
returns-then-not-is_good c =
    rw (← pad_is (goal.at.returns-then-not-is_good c).After-pad_set, c.if-pad_set.false, ← good_is (goal.at.returns-then-not-is_good c).After-is_good, c.if-not-is_good.true)

pub returns : goal.returns
unfolding content_reasons first_of
returns c =
    rw (← pad_is (goal.at.returns c).After-pad_set, c.if-pad_set.false, ← good_is (goal.at.returns c).After-is_good, c.if-not-is_good.false)
