-- `starts_of`: i rows are found.
use mathlib.Core.Path.{◌≡◌}
use Prim.Native.Nat.{ℕ, ◌≤◌, ◌<◌}
use lib.ListN.{length, get_or}
use Rattle.exchange.specs.inner.ByteRows.{empty_row, row_at}
use Rattle.exchange.specs.inner.Planes.{row_starts}
use Rattle.exchange.proofs.decoder.planes.starts_of.Given as goal

abbrev pub invariant-loop-i : goal.invariant-loop-i
invariant-loop-i l =
    (l.i ≤ l.d) × (length l.s ≡ row_starts) × ((j : ℕ) → j < l.i → get_or l.s j 0 ≡ row_at (get_or l.positions j 0))
    × ((j : ℕ) → l.i ≤ j → j < row_starts → get_or l.s j 0 ≡ empty_row)
