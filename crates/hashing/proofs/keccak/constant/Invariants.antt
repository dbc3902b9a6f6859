-- `hashing::keccak::constant`: after j turns the constant has its first j bits, and the register is j steps on.
use Prim.Native.Nat.{◌-◌, ◌^◌, ◌≤◌, ◌<◌}
use Rattle.hashing.specs.inner.Constants.{Steps}
use Rattle.hashing.proofs.keccak.Registers.{Within}
use Rattle.hashing.proofs.keccak.constant.Given as goal

abbrev pub invariant-loop-j : goal.invariant-loop-j
invariant-loop-j l =
    (l.j ≤ 7) × (l.constant < 2 ^ (2 ^ l.j - 1)) × Steps l.j l.begins l.register × Within l.j l.begins l.constant
