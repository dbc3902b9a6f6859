-- `add_rows`: i words of the block have the eight rows, and all others are as they came.
use mathlib.Core.Path.{◌≡◌}
use mathlib.Core.List.{List}
use mathlib.Core.Logic.{◌⊎◌}
use Prim.Native.Nat.{ℕ, ◌+◌, ◌*◌, ◌^◌, ◌≤◌, ◌<◌}
use Rattle.exchange.specs.inner.Counting.{total}
use Rattle.exchange.specs.inner.Planes.{planes, block_words, plane_words, column, number_at, in_row}
use Rattle.exchange.proofs.decoder.planes.add_rows.Given as goal

-- what the eight rows add at place e of word i
abbrev pub rows : List ℕ → List ℕ → ℕ → ℕ → ℕ → ℕ
rows f starts k i e = total 8 (λ m. in_row f starts (64 * i + e) (k + m))

-- column q is column q₀ with them
abbrev pub Adds : List ℕ → List ℕ → ℕ → ℕ → List ℕ → List ℕ → Type 0
Adds f starts k i q₀ q =
    (e : ℕ) → e < 64 → number_at q₀ e + rows f starts k i e < 2 ^ planes → number_at q e ≡ number_at q₀ e + rows f starts k i e

abbrev pub invariant-loop-i : goal.invariant-loop-i
invariant-loop-i l =
    (l.i ≤ block_words)
    × ((j : ℕ) → l.from ≤ j → j < l.from + l.i → Adds l.f l.starts l.k j (column l.initial.p j) (column l.p j))
    × ((j : ℕ) → j < plane_words → (j < l.from) ⊎ (l.from + l.i ≤ j) → column l.p j ≡ column l.initial.p j)
