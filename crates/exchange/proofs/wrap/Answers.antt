-- `wrap` wraps where its judge finds nothing.
use mathlib.Core.Path.{sym}
use Rattle.hashing.proofs.Answers.{done, refuses}
use Rattle.exchange.specs.Promises.{wrap_says}
use Rattle.exchange.proofs.wrap.Goals as goal

pub returns-in-Err : goal.returns-in-Err
unfolding wrap_says
returns-in-Err c = rw (c.zero.ensures, c.zero-in-Err.ensures) (sym (refuses _ _ c.in-Err.refusal c.in-Err.ensures))

pub returns : goal.returns
unfolding wrap_says
returns c = rw (done _ _ (sym c.in_default.ensures), c.write.ensures.0, c.write.ensures.1)
