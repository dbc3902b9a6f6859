-- `words::funnel` meets its contract. Assumes nothing.
use native.Mathlib.Omega.{arith}
use Rattle.ring.proofs.words.Laws.{funnelled}
use Rattle.ring.proofs.words.funnel.Goals as goal

pub returns : goal.returns
returns c = λ e h. funnelled c.args.low c.args.high c.args.s e c.ranges.low.fits (omega arith) h
