-- `extend` goes on with the period r: before turn j all words below j have it.
use mathlib.Core.Path.{◌≡◌}
use Prim.Native.Nat.{ℕ, ◌+◌, ◌*◌, ◌/◌, ◌%◌, ◌≤◌, ◌<◌}
use lib.ListN.{length}
use Rattle.hashing.specs.Lists.{bits}
use Rattle.ring.specs.Polynomials.{Poly}
use Rattle.ring.specs.inner.Sizes.{empty_window}
use Rattle.ring.proofs.sparse.extend.Given as goal

abbrev pub invariant-loop-j : goal.invariant-loop-j
invariant-loop-j l =
    (l.r / 64 + 1 ≤ l.j) × (l.j ≤ 2 * (l.r / 64) + 2) × (length l.d ≡ length l.initial.d)
    × ((a : Poly) → ((k : ℕ) → k < 64 * (l.r / 64 + 1) → bits 64 l.initial.d k ≡ a (k % l.r)) → (k : ℕ) → k < 64 * l.j → bits 64 l.d k ≡ a (k % l.r))
    × ((k : ℕ) → empty_window ≤ k → bits 64 l.d k ≡ bits 64 l.initial.d k)
