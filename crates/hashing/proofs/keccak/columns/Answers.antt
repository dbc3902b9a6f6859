-- `hashing::keccak::columns`: one call for each column.
use Rattle.hashing.proofs.keccak.Laws.{five}
use Rattle.hashing.proofs.keccak.columns.Goals as goal

pub returns : goal.returns
returns c =
    five _ c.column.ensures c.column-2.ensures c.column-3.ensures
    c.column-4.ensures c.column-5.ensures
