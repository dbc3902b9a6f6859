-- `words_of` has the halves of the message's positions.
use mathlib.Core.Path.{◌≡◌}
use native.Mathlib.Omega.{arith}
use lib.ListN.{take}
use Rattle.ring.specs.Levels.{level_of}
use Rattle.ring.proofs.Levels.{sizes}
use Rattle.exchange.specs.Scheme.{error_positions, hash_h}
use Rattle.exchange.proofs.Errors.{error_below}
use Rattle.exchange.proofs.error.words_of.Goals as goal
use Rattle.exchange.proofs.error.words_of.Goals.{After-positions-sampled}

listed_is : (c : After-positions-sampled) →
    let given = c.args in
    take c.error_weight-t.result c.positions-sampled.result.list ≡ error_positions (level_of given.level) given.message.now
listed_is c = rw c.error_weight-t.ensures c.positions-sampled.ensures.0

pub halves-requires : goal.halves-requires
halves-requires c =
    let given = c.args in rw (listed_is (goal.at.halves-requires c).After-positions-sampled) (error_below given.level given.message.now)

pub returns : goal.returns
unfolding hash_h
returns c =
    let is = rw (listed_is (goal.at.returns c).After-positions-sampled) at c.halves.ensures in
    (is.0, is.1, c.positions-sampled.ensures.1)

pub shared_ref_as_front-halves : goal.shared_ref_as_front-halves
shared_ref_as_front-halves c = omega (arith, sizes c.args.level)
