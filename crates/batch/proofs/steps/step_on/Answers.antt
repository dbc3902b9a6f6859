-- `step_on` ends the count, or goes by what a look at the bytes tells.
use mathlib.Core.Path.{◌≡◌, sym, ap, ◌∙◌}
use mathlib.Core.Logic.{inl, inr}
use Prim.Native.Nat.{◌<◌}
use native.Mathlib.Omega.{arith}
use borrow.Author.Tests.{eqb-true, eqb-false}
use lib.ListN.{length}
use Rattle.batch.specs.Report.{most_triples}
use Rattle.batch.specs.declared.triple.Look.{Look}
use Rattle.batch.specs.declared.triple.Look.TheVariants.{Known}
use Rattle.batch.specs.inner.Windows.{meant}
use Rattle.batch.proofs.Stepping.{end_step, known_step, waits_step}
use Rattle.batch.proofs.steps.step_on.Goals as goal
use Rattle.batch.proofs.steps.step_on.Goals.{Else-is_empty, then-totals-eq-MOST_TRIPLES-via-then-totals-eq-MOST_TRIPLES, then-totals-eq-MOST_TRIPLES-via-else-totals-eq-MOST_TRIPLES+then-is_empty}

pub returns-then-totals-eq-MOST_TRIPLES : goal.returns-then-totals-eq-MOST_TRIPLES
returns-then-totals-eq-MOST_TRIPLES c =
    end_step _ _ _ c.requires.fact_1
    (elim c.then-totals-eq-MOST_TRIPLES.branch [
      | then-totals-eq-MOST_TRIPLES-via-then-totals-eq-MOST_TRIPLES w ↦ inl w.if-totals-eq-MOST_TRIPLES.true
      | then-totals-eq-MOST_TRIPLES-via-else-totals-eq-MOST_TRIPLES+then-is_empty w ↦ inr (eqb-true _ _ (sym w.if-is_empty.ensures))
    ])
    c.requires.fact_2

-- where the count looks: a byte is there, and a triple may still be counted
there : (c : Else-is_empty) → (0 < length c.args.bytes.now) × (c.args.totals.triples < most_triples)
there c =
    let some : length c.args.bytes.now ≡ 0 → ⊥ = eqb-false _ _ (sym c.if-is_empty.ensures) in
    (omega (arith, some), omega (arith, c.if-totals-eq-MOST_TRIPLES.false, c.requires.fact_1.few))

pub step_judged-requires-clause-fact_3 : goal.step_judged-requires-clause-fact_3
step_judged-requires-clause-fact_3 c = λ gain is.
    let small = c.look_at.ensures.within gain (c.in-Known.is ∙ ap Known is) in
    (small.2, small.3)

pub returns-in-Known : goal.returns-in-Known
unfolding meant
returns-in-Known c =
    let can = there (goal.at.returns-in-Known c).Else-is_empty in
    rw c.step_judged.ensures
    (known_step _ _ _ c.requires.fact_1 can.0 can.1 c.in-Known.judged
    (λ rest all. c.look_at.ensures.by_index rest all ∙ ap (λ (look : Look). meant look rest) c.in-Known.is)
    (λ gain is. c.look_at.ensures.within gain (c.in-Known.is ∙ ap Known is)))

pub returns-in-Waits : goal.returns-in-Waits
unfolding meant
returns-in-Waits c =
    let can = there (goal.at.returns-in-Waits c).Else-is_empty in
    waits_step _ _ _ c.requires.fact_1 can.0 can.1 c.in-Waits.wait
    (omega arith)
    (λ rest all. c.look_at.ensures.by_index rest all ∙ ap (λ (look : Look). meant look rest) c.in-Waits.is)
