-- `stream` squeezes its bytes from the first 32 of the seed.
use Prim.Native.Nat.{◌*◌}
use Rattle.hashing.specs.Sponge.{shake256}
use Rattle.exchange.specs.Scheme.{key_words}
use Rattle.exchange.proofs.Parts.{blank_long}
use Rattle.exchange.proofs.keys.stream.Goals as goal

pub returns : goal.returns
unfolding shake256
returns c = rw (blank_long (4 * key_words)) at c.digest.ensures
