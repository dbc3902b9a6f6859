-- `blank`: room that was never written to.
use Rattle.exchange.proofs.decoder.rows.Laws.{blank_room}
use Rattle.exchange.proofs.decoder.rows.Rows.blank.Goals as goal

pub invariant_of-result : goal.invariant_of-result
invariant_of-result c = record { empty = blank_room c.filled.ensures }
