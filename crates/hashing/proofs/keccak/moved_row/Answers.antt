-- `hashing::keccak::moved_row`: the five lanes of a plane.
use Rattle.hashing.specs.Keccak.{plane}
use Rattle.hashing.proofs.keccak.Laws.{five}
use Rattle.hashing.proofs.keccak.moved_row.Goals as goal

pub returns : goal.returns
unfolding plane
returns c =
    five _ c.moved.ensures c.moved-2.ensures c.moved-3.ensures
    c.moved-4.ensures c.moved-5.ensures
