-- `bound_of`: a weight below r is at most r.
use Rattle.hashing.specs.Lists.{bits}
use Rattle.ring.specs.Levels.{level_of}
use Rattle.exchange.proofs.decoder.Laws.{weight_le}
use Rattle.exchange.proofs.decoder.rounds.bound_of.Goals as goal

pub threshold-requires : goal.threshold-requires
threshold-requires c =
    rw c.ones.ensures (weight_le (level_of c.args.level).r (bits 64 c.args.x))
