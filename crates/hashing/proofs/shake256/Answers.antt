-- SHAKE256 is the sponge's digest, and nothing is refused.
use Rattle.hashing.specs.Answers.{first_of, content, settle}
use Rattle.hashing.specs.Promises.{shake256_says}
use Rattle.hashing.specs.Sponge.{shake256}
use Rattle.hashing.proofs.shake256.Goals as goal

pub returns : goal.returns
unfolding shake256_says shake256 settle first_of content
returns c = rw c.digest.ensures
