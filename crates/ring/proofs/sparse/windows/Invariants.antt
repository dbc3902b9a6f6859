-- `windows`: before a pass the first 8 windows for each one before of what stands in d are added; those past the last are empty.
use mathlib.Core.Path.{◌≡◌}
use mathlib.Core.Bool.{Bool}
use mathlib.Core.List.{List}
use Prim.Native.Nat.{ℕ, ◌+◌, ◌*◌, ◌/◌, ◌<◌}
use lib.ListN.{length, get_or}
use Rattle.hashing.specs.Lists.{bits}
use Rattle.ring.specs.Polynomials.{InRing, parity}
use Rattle.ring.specs.inner.Sizes.{words}
use Rattle.ring.proofs.sparse.windows.Given as goal

-- what the window at place i of the starts adds to bit k
abbrev pub added : List ℕ → List ℕ → ℕ → ℕ → Bool
added d from k i = bits 64 d (get_or from i 0 + k)

abbrev pub invariant-loop-pass : goal.invariant-loop-pass
invariant-loop-pass l =
    (length l.y ≡ words) × InRing (64 * (l.r / 64 + 1)) (bits 64 l.y)
    × ((k : ℕ) → k < 64 * (l.r / 64 + 1) → bits 64 l.y k ≡ parity (8 * l.pass) (added l.d l.from k))
