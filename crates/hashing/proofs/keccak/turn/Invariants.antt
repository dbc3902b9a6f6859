-- `hashing::keccak::turn`: after i turns the walk stands at step 6i.
use mathlib.Core.Path.{◌≡◌}
use Prim.Native.Nat.{◌*◌, ◌≤◌}
use Rattle.hashing.specs.inner.Constants.{Stands}
use Rattle.hashing.proofs.keccak.turn.Given as goal

abbrev pub invariant-loop-i : goal.invariant-loop-i
invariant-loop-i l = (l.i ≤ 4) × (l.walk.t ≡ 6 * l.i) × Stands l.place l.walk
