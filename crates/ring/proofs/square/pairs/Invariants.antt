-- `pairs` writes two words a turn: before turn i the first 2 i words are the square's.
use mathlib.Core.Path.{◌≡◌}
use Prim.Native.Nat.{ℕ, ◌*◌, ◌≤◌, ◌<◌}
use lib.ListN.{length}
use Rattle.hashing.specs.Lists.{bits}
use Rattle.ring.specs.inner.Even.{source}
use Rattle.ring.specs.inner.Sizes.{words}
use Rattle.ring.specs.Polynomials.{InRing}
use Rattle.ring.proofs.square.pairs.Given as goal

abbrev pub invariant-loop-i : goal.invariant-loop-i
invariant-loop-i l =
    (l.i ≤ l.n) × (length l.y ≡ words) × InRing (64 * (2 * l.i)) (bits 64 l.y)
    × ((k : ℕ) → k < 64 * (2 * l.i) → bits 64 l.y k ≡ bits 64 l.d (source l.middle k))
