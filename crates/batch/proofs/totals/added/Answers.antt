-- `added` adds a gain: no sum overflows, as the totals are sound.
use Rattle.batch.specs.Report.{added}
use Rattle.batch.proofs.totals.added.Goals as goal

pub returns-in-Some : goal.returns-in-Some
unfolding added
returns-in-Some c = rw (c.in-Some.is, added)

pub returns-in-None : goal.returns-in-None
unfolding added
returns-in-None c = rw (c.in-None.is, added)
