-- `hashing::keccak::register`: a turn goes on from one round's register to the next round's.
use Prim.Native.Nat.{◌≤◌}
use Rattle.hashing.specs.inner.Constants.{Begins}
use Rattle.hashing.proofs.keccak.register.Given as goal

abbrev pub invariant-loop-round : goal.invariant-loop-round
invariant-loop-round l = (l.round ≤ l.i) × Begins l.round l.register
