-- `hashing::kmac::string`: the length in bits, and then the bytes.
use Rattle.hashing.specs.Kmac.{encode_string}
use Rattle.hashing.proofs.kmac.Laws.{both}
use Rattle.hashing.proofs.kmac.string.Goals as goal

pub returns : goal.returns
unfolding encode_string
returns c = both c.left.ensures c.absorb.ensures
