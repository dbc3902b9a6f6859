-- `bound` is the digest of both, the message first.
use Rattle.exchange.specs.Scheme.{bound}
use Rattle.exchange.proofs.digest.bound.Goals as goal

pub returns : goal.returns
unfolding bound
returns c = c.digest32.ensures
