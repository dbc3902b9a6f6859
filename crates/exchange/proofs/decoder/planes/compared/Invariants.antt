-- `compared`: i words are done.
use mathlib.Core.List.{List}
use Prim.Native.Nat.{ℕ, ◌/◌, ◌%◌, ◌≤◌}
use Rattle.ring.specs.Polynomials.{Poly}
use Rattle.ring.proofs.words.Laws.{Done}
use Rattle.exchange.specs.inner.Planes.{column, reaches_at}
use Rattle.exchange.proofs.decoder.planes.compared.Given as goal

abbrev pub marked : List ℕ → List ℕ → Poly
marked p clear j = reaches_at clear (column p (j / 64)) (j % 64)

abbrev pub invariant-loop-i : goal.invariant-loop-i
invariant-loop-i l = (l.i ≤ l.n) × Done (marked l.p l.clear) l.i l.x
