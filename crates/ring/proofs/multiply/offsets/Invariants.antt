-- `multiply::offsets` meets its contract: m offsets are in place. Assumes nothing.
use mathlib.Core.Path.{◌≡◌}
use mathlib.Core.List.{◌++◌}
use Prim.Native.Nat.{◌≤◌}
use lib.ListN.{length, drop, replicate}
use Rattle.hashing.specs.Lists.{tab}
use Rattle.ring.specs.inner.Wide.{start}
use Rattle.ring.proofs.multiply.offsets.Given as goal

abbrev pub invariant-loop-m : goal.invariant-loop-m
invariant-loop-m l = (l.m ≤ 7) × (length l.o ≡ 7) × (l.o ≡ tab l.m (start l.a l.w l.j) ++ drop l.m (replicate 7 0))
