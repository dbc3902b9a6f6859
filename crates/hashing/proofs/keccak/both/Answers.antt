-- `both`: the complement of the second lane is what is held.
use Rattle.hashing.proofs.keccak.Inverting.{both-chosen}
use Rattle.hashing.proofs.keccak.both.Goals as goal

pub returns : goal.returns
returns c = both-chosen c.args.b c.args.c c.args.d c.ranges.c.fits
