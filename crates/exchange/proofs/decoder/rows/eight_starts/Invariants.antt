-- `eight_starts`: m starts are found.
use mathlib.Core.Path.{◌≡◌}
use mathlib.Core.List.{◌++◌}
use Prim.Native.Nat.{◌+◌, ◌≤◌}
use lib.ListN.{drop, replicate}
use Rattle.hashing.specs.Lists.{tab}
use Rattle.exchange.specs.inner.ByteRows.{turned_row}
use Rattle.exchange.proofs.decoder.rows.eight_starts.Given as goal

abbrev pub invariant-loop-m : goal.invariant-loop-m
invariant-loop-m l = (l.m ≤ 8) × (l.at ≡ tab l.m (λ m. turned_row l.r l.positions l.d (l.i + m)) ++ drop l.m (replicate 8 0))
