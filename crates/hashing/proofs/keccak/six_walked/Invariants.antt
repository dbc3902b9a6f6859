-- `hashing::keccak::six_walked`: after i turns the walk is i steps on.
use Prim.Native.Nat.{◌≤◌}
use Rattle.hashing.specs.inner.Constants.{Goes}
use Rattle.hashing.proofs.keccak.six_walked.Given as goal

abbrev pub invariant-loop-i : goal.invariant-loop-i
invariant-loop-i l = (l.i ≤ 6) × Goes l.i l.place l.initial.walk l.walk
