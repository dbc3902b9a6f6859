-- `hashing::kmac::left`: a number of one byte, or of two.
use Rattle.hashing.proofs.kmac.Laws.{left_one, left_two}
use Rattle.hashing.proofs.kmac.left.Goals as goal

pub returns-then-x-lt256 : goal.returns-then-x-lt256
returns-then-x-lt256 c =
    rw (left_one c.args.x c.if-x-lt256.true) c.absorb.ensures

pub returns : goal.returns
returns c =
    rw (left_two c.args.x c.if-x-lt256.false c.requires.1) c.absorb-2.ensures
