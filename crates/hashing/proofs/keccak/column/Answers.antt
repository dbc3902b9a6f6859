-- `hashing::keccak::column`: the five lanes of column x, in the order of 3.2.1.
use native.Mathlib.Nat.{zero-add}
use Rattle.hashing.specs.Keccak.{lane, parity_c}
use Rattle.hashing.proofs.keccak.column.Goals as goal

pub returns : goal.returns
unfolding lane parity_c
returns c = rw zero-add
