-- `offsets`: e of them are in place, and `at` is the next.
use mathlib.Core.Path.{◌≡◌}
use mathlib.Core.List.{◌++◌}
use Prim.Native.Nat.{◌*◌, ◌%◌, ◌≤◌, ◌<◌}
use lib.ListN.{length, drop, replicate}
use Rattle.hashing.specs.Lists.{tab}
use Rattle.ring.proofs.square.offsets.Given as goal

abbrev pub invariant-loop-e : goal.invariant-loop-e
invariant-loop-e l =
    (l.e ≤ 64) × (length l.o ≡ 64) × (l.at < l.r) × (l.at ≡ (l.n * l.e) % l.r) × (l.o ≡ tab l.e (λ j. (l.n * j) % l.r) ++ drop l.e (replicate 64 0))
