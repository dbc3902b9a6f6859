-- `next_eight`: m starts are in place.
use mathlib.Core.Path.{◌≡◌}
use mathlib.Core.List.{List, ◌++◌}
use Prim.Native.Nat.{ℕ, ◌+◌, ◌≤◌}
use lib.ListN.{length, get_or, drop, replicate}
use Rattle.hashing.specs.Lists.{tab}
use Rattle.ring.proofs.sparse.next_eight.Given as goal

abbrev pub starts : List ℕ → ℕ → ℕ → ℕ
starts from j m = get_or from (j + m) 0

abbrev pub invariant-loop-m : goal.invariant-loop-m
invariant-loop-m l = (l.m ≤ 8) × (length l.o ≡ 8) × (l.o ≡ tab l.m (starts l.from l.j) ++ drop l.m (replicate 8 0))
