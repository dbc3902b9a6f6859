-- `hashing::keccak::permute`: after i turns the state that is held is that of i rounds.
use mathlib.Core.Path.{◌≡◌}
use Prim.Native.Nat.{◌≤◌}
use Rattle.hashing.specs.Keccak.{rounds}
use Rattle.hashing.specs.inner.Inverted.{exchanged}
use Rattle.hashing.proofs.keccak.permute.Given as goal

abbrev pub invariant-loop-i : goal.invariant-loop-i
invariant-loop-i l = (l.i ≤ 24) × (l.a ≡ exchanged (rounds l.i (exchanged l.initial.a)))
