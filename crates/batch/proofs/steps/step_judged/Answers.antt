-- `step_judged` goes by the same cases as its definition.
use Rattle.batch.specs.inner.Steps.{by_judged}
use Rattle.batch.proofs.steps.step_judged.Goals as goal

pub added-requires : goal.added-requires
added-requires c =
    let asked = c.requires in
    record { fact_1 = asked.fact_1; fact_2 = asked.fact_2; fact_3 = asked.fact_3 c.in-Ok.gain c.in-Ok.is }

pub returns-in-Ok : goal.returns-in-Ok
unfolding by_judged
returns-in-Ok c =
    rw (c.added.ensures, c.in-Ok.is, by_judged)

pub returns-in-Err : goal.returns-in-Err
unfolding by_judged
returns-in-Err c = rw (c.in-Err.is, by_judged)
