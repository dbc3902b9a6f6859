-- `hashing::keccak::round`: the state is its five planes.
use mathlib.Core.Path.{◌∙◌}
use Rattle.hashing.specs.Keccak.{chi}
use Rattle.hashing.proofs.keccak.Laws.{five_planes, length-state}
use Rattle.hashing.proofs.keccak.Inverting.{iota-exchanged, length_exchanged}
use Rattle.hashing.proofs.keccak.round.Goals as goal

pub returns : goal.returns
unfolding chi
returns c =
    five_planes _ _ (length_exchanged _) c.row_0-p.ensures c.row_1-q.ensures
    c.row_2-r.ensures c.row_3-s.ensures c.row_4-t.ensures
    ∙ iota-exchanged _ _ (length-state _)
