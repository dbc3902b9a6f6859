-- `too_long` tells a known kind from an unknown one.
use Rattle.batch.specs.inner.Windows.{too_long}
use Rattle.batch.proofs.triple.too_long.Goals as goal

pub returns-in-Ok : goal.returns-in-Ok
unfolding too_long
returns-in-Ok c = rw (c.in-Ok.ensures.0, too_long)

pub returns-in-Err : goal.returns-in-Err
unfolding too_long
returns-in-Err c = rw (c.in-Err.ensures.0, c.in-Err.ensures.1, too_long)
