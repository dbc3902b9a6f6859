-- `counters`: b blocks are counted, and the counters of the others are 0.
use mathlib.Core.Path.{◌≡◌}
use Prim.Native.Nat.{ℕ, ◌+◌, ◌*◌, ◌≤◌, ◌<◌}
use Rattle.exchange.specs.inner.Counting.{total}
use Rattle.exchange.specs.inner.Planes.{block_words, plane_words, column, number_at, in_row}
use Rattle.exchange.proofs.decoder.planes.counters.Given as goal

abbrev pub invariant-loop-b : goal.invariant-loop-b
invariant-loop-b l =
    (l.b ≤ l.n)
    × ((i e : ℕ) → i < block_words * l.b → e < 64 → number_at (column l.p i) e ≡ total l.d (in_row l.rows.bytes l.starts (64 * i + e)))
    × ((i e : ℕ) → block_words * l.b ≤ i → i < plane_words → number_at (column l.p i) e ≡ 0)
