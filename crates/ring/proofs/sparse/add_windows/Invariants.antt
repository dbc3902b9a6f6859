-- `add_windows` adds word by word: before turn i the words below i have their windows, and the others are as they came.
use mathlib.Core.Path.{◌≡◌}
use mathlib.Core.Bool.{Bool}
use mathlib.Core.List.{List}
use Prim.Native.Nat.{ℕ, ◌+◌, ◌*◌, ◌≤◌, ◌<◌}
use lib.ListN.{length, get_or}
use Rattle.hashing.specs.Lists.{bits}
use Rattle.ring.specs.Polynomials.{flip, parity}
use Rattle.ring.proofs.sparse.add_windows.Given as goal

-- bit k of y with the windows
abbrev pub summed : List ℕ → List ℕ → List ℕ → ℕ → Bool
summed y d from k = flip (bits 64 y k) (parity 8 (λ m. bits 64 d (get_or from m 0 + k)))

abbrev pub invariant-loop-i : goal.invariant-loop-i
invariant-loop-i l =
    (l.i ≤ l.n) × (length l.y ≡ length l.initial.y) × ((k : ℕ) → k < 64 * l.i → bits 64 l.y k ≡ summed l.initial.y l.d l.from k)
    × ((k : ℕ) → 64 * l.i ≤ k → bits 64 l.y k ≡ bits 64 l.initial.y k)
