-- `joined`: the upper bits of one byte and the lower ones of the other.
use native.Mathlib.Omega.{arith}
use Rattle.exchange.proofs.decoder.rows.Laws.{joined_bits}
use Rattle.exchange.proofs.decoder.rows.joined.Goals as goal

pub returns : goal.returns
returns c = λ e below. joined_bits c.args.low c.args.high c.args.s e (omega arith) (omega arith) below
