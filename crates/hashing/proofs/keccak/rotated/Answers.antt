-- `hashing::keccak::rotated`: the two halves of the lane meet in no bit.
use Rattle.hashing.proofs.keccak.Laws.{rotate_or}
use Rattle.hashing.proofs.keccak.rotated.Goals as goal

pub returns : goal.returns
returns c = rotate_or c.args.n c.args.word c.requires c.ranges.word.fits
