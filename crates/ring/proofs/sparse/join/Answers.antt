-- `join` takes the upper bits of one word and the lower ones of the next.
use native.Mathlib.Omega.{arith}
use Rattle.ring.proofs.sparse.Laws.{join_bits}
use Rattle.ring.proofs.sparse.join.Goals as goal

pub returns : goal.returns
returns c = λ e below. join_bits c.args.low c.args.high c.args.s e (omega arith) c.requires below
