-- `permuted` fills its words from the lowest: before turn i the bits below 64 i are in place, and `base` is where bit 64 i comes from.
use mathlib.Core.Path.{◌≡◌}
use Prim.Native.Nat.{ℕ, ◌+◌, ◌*◌, ◌/◌, ◌%◌, ◌≤◌, ◌<◌}
use lib.ListN.{length}
use Rattle.hashing.specs.Lists.{bits}
use Rattle.ring.specs.inner.Held.{Held}
use Rattle.ring.specs.Polynomials.{Poly, InRing}
use Rattle.ring.specs.inner.Sizes.{words}
use Rattle.ring.proofs.square.permuted.Given as goal

abbrev pub invariant-loop-i : goal.invariant-loop-i
invariant-loop-i l =
    (l.i ≤ l.r / 64 + 1) × (length l.y ≡ words) × (l.base ≡ (l.n * (64 * l.i)) % l.r) × (l.base < l.r) × InRing (64 * l.i) (bits 64 l.y)
    × ((a : Poly) → Held l.r a l.d → (k : ℕ) → k < 64 * l.i → bits 64 l.y k ≡ a ((l.n * k) % l.r))
