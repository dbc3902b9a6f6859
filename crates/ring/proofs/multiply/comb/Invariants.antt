-- `multiply::comb` meets its contract: the windows from this one on are done, whatever the table is of. Assumes nothing.
use mathlib.Core.Path.{◌≡◌}
use Prim.Native.Nat.{ℕ, ◌*◌, ◌<◌}
use lib.ListN.{length}
use Rattle.hashing.specs.Lists.{bits}
use Rattle.ring.specs.Polynomials.{Poly, InRing}
use Rattle.ring.specs.inner.Wide.{Multiples}
use Rattle.ring.proofs.multiply.Laws.{combed}
use Rattle.ring.proofs.multiply.comb.Given as goal

abbrev pub invariant-loop-window : goal.invariant-loop-window
invariant-loop-window l =
    (length l.x ≡ 98)
    × ((b : Poly) → Multiples b 32 l.t → InRing (64 * l.n) b → (k : ℕ) → k < 128 * l.n → bits 64 l.x k ≡ combed l.n l.a b (5 * l.window) k)
