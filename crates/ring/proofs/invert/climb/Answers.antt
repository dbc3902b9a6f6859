-- `climb` makes one product of the chain, and one more where the digit is 1.
use borrow.Author.Tests.{eq-eqb, ne_eqb}
use Rattle.ring.specs.Chain.{doubled, longer}
use Rattle.ring.proofs.invert.climb.Goals as goal

pub returns-then-digit-eq1 : goal.returns-then-digit-eq1
unfolding doubled longer
returns-then-digit-eq1 c =
    let twice = c.step-twice.ensures in
    rw (eq-eqb _ _ c.if-digit-eq1.true, ← twice.fact_1, ← twice.fact_2) c.step.ensures

pub returns : goal.returns
unfolding doubled longer
returns c = rw (ne_eqb _ _ c.if-digit-eq1.false) c.step-twice.ensures
