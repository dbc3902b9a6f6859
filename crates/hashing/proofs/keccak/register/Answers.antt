-- `hashing::keccak::register`: a turn goes on from one round's register to the next round's.
use native.Mathlib.Omega.{arith}
use Rattle.hashing.proofs.keccak.Registers.{begins_first}
use Rattle.hashing.proofs.keccak.register.Goals as goal

pub loop-round-init : goal.loop-round-init
loop-round-init c = (omega arith, begins_first)
