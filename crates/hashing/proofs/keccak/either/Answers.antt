-- `either`: de Morgan's law.
use Rattle.hashing.proofs.keccak.Inverting.{either-chosen}
use Rattle.hashing.proofs.keccak.either.Goals as goal

pub returns : goal.returns
returns c = either-chosen c.args.b c.args.c c.args.d c.ranges.c.fits c.ranges.d.fits
