-- `column_of`: the words of k planes are read.
use mathlib.Core.Path.{◌≡◌}
use mathlib.Core.List.{List, ◌++◌}
use Prim.Native.Nat.{ℕ, ◌+◌, ◌*◌, ◌≤◌}
use lib.ListN.{length, get_or, drop, replicate}
use Rattle.hashing.specs.Lists.{tab}
use Rattle.exchange.specs.inner.Planes.{planes, plane_words}
use Rattle.exchange.proofs.decoder.planes.column_of.Given as goal

abbrev pub entry : List ℕ → ℕ → ℕ → ℕ
entry p i k = get_or p (plane_words * k + i) 0

abbrev pub invariant-loop-k : goal.invariant-loop-k
invariant-loop-k l = (l.k ≤ planes) × (length l.q ≡ planes) × (l.q ≡ tab l.k (entry l.p l.i) ++ drop l.k (replicate planes 0))
