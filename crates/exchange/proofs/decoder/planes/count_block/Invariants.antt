-- `count_block`: after each pass of eight rows the counters of the block are their sum; the empty rows past the last add nothing.
use mathlib.Core.Path.{◌≡◌}
use Prim.Native.Nat.{ℕ, ◌+◌, ◌*◌, ◌/◌, ◌≤◌, ◌<◌}
use Rattle.exchange.specs.inner.Counting.{total}
use Rattle.exchange.specs.inner.Planes.{block_words, column, number_at, in_row, Kept}
use Rattle.exchange.proofs.decoder.planes.count_block.Given as goal

abbrev pub invariant-loop-pass : goal.invariant-loop-pass
invariant-loop-pass l =
    (l.pass ≤ (l.d + 7) / 8)
    × ((i e : ℕ) → l.from ≤ i → i < l.from + block_words → e < 64 → number_at (column l.p i) e ≡ total (8 * l.pass) (in_row l.f l.starts (64 * i + e)))
    × Kept l.from l.initial.p l.p
