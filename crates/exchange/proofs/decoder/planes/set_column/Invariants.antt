-- `set_column`: k planes have their word, and nothing else is touched.
use mathlib.Core.Path.{◌≡◌}
use Prim.Native.Nat.{ℕ, ◌+◌, ◌*◌, ◌≤◌, ◌<◌}
use lib.ListN.{get_or}
use Rattle.exchange.specs.inner.Planes.{planes, plane_words}
use Rattle.exchange.proofs.decoder.planes.set_column.Given as goal

abbrev pub invariant-loop-k : goal.invariant-loop-k
invariant-loop-k l =
    (l.k ≤ planes) × ((m : ℕ) → m < l.k → get_or l.p (plane_words * m + l.i) 0 ≡ get_or l.q m 0)
    × ((j m : ℕ) → j < plane_words → (j ≡ l.i → ⊥) → get_or l.p (plane_words * m + j) 0 ≡ get_or l.initial.p (plane_words * m + j) 0)
