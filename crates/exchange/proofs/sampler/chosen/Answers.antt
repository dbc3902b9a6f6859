-- `chosen` is what is appended, and whether it replaces.
use native.Mathlib.Omega.{arith}
use Rattle.exchange.specs.Sampler.{appended}
use Rattle.exchange.proofs.sampler.chosen.Goals as goal

pub returns-then-listed : goal.returns-then-listed
unfolding appended
returns-then-listed c = (rw (← c.listed.ensures, c.if-listed.true), rw (← c.listed.ensures, c.if-listed.true), omega arith)

pub returns-else-listed : goal.returns-else-listed
unfolding appended
returns-else-listed c = (rw (← c.listed.ensures, c.if-listed.false), rw (← c.listed.ensures, c.if-listed.false), omega arith)
