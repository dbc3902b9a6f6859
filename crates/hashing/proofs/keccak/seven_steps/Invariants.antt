-- `hashing::keccak::seven_steps`: after i turns the register is i steps on.
use Prim.Native.Nat.{◌≤◌}
use Rattle.hashing.specs.inner.Constants.{Steps}
use Rattle.hashing.proofs.keccak.seven_steps.Given as goal

abbrev pub invariant-loop-i : goal.invariant-loop-i
invariant-loop-i l = (l.i ≤ 7) × Steps l.i l.before l.register
