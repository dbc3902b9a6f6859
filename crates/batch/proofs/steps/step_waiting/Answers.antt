-- `step_waiting` takes all bytes at hand.
use native.Mathlib.Omega.{arith}
use Rattle.batch.proofs.Stepping.{come_step, cut_step, more_step}
use Rattle.batch.proofs.steps.step_waiting.Goals as goal

pub returns-then-wait-have : goal.returns-then-wait-have
returns-then-wait-have c = λ bytes size.
    rw (← size) (come_step _ _ bytes _ c.requires.fact_1 (omega (arith, size, c.if-wait-have.true)))

pub returns-then-ended : goal.returns-then-ended
returns-then-ended c = λ bytes size.
    rw (← size) (cut_step _ _ bytes _ c.requires.fact_1 (omega (arith, size, c.if-wait-have.false)) c.if-ended.true)

pub returns-else-ended : goal.returns-else-ended
returns-else-ended c = λ bytes size.
    let room = c.requires.fact_2 c.if-ended.false in
    rw (← size)
    (more_step _ _ bytes _ c.requires.fact_1 (omega (arith, size, c.if-wait-have.false)) (omega (arith, size, room)))
