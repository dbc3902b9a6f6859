-- `start`: the row, or the zeros past the last position.
use borrow.Author.Tests.{lt-ltb, le-ltb}
use Rattle.exchange.specs.inner.ByteRows.{row_at, turned_row}
use Rattle.exchange.proofs.decoder.rows.start.Goals as goal

pub returns-then-i-d : goal.returns-then-i-d
unfolding turned_row row_at
returns-then-i-d c = rw (lt-ltb _ _ c.if-i-d.true, turned_row, row_at)

pub returns-else-i-d : goal.returns-else-i-d
unfolding turned_row
returns-else-i-d c = rw (le-ltb _ _ c.if-i-d.false, turned_row)
