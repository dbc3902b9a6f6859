-- `one` leaves a count that has ended as it is.
use mathlib.Core.Logic.{inl, inr}
use Rattle.batch.specs.Promises.{goes_on}
use Rattle.batch.proofs.Stepping.{rest_step}
use Rattle.batch.proofs.steps.one.Goals as goal

pub returns-in-Ended : goal.returns-in-Ended
unfolding goes_on
returns-in-Ended c =
    rest_step _ _ _ c.requires.fact_1 (elim c.in-Ended.is [ inl is ↦ rw (is, goes_on) | inr is ↦ rw (is.1, goes_on) ])
