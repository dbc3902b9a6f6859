-- `judged` makes the keys where its judge finds nothing and no words ran out.
use mathlib.Core.Path.{ap, sym, ◌∙◌}
use Rattle.hashing.specs.Refusals.{answer}
use Rattle.hashing.proofs.Answers.{first_after}
use Rattle.exchange.proofs.Judged.{hands_on, refuses_first, making_numbered}
use Rattle.exchange.proofs.keys.judged.Goals as goal

pub returns-in_err-making-clause-answered : goal.returns-in_err-making-clause-answered
returns-in_err-making-clause-answered c =
    hands_on c.from_residual.result _ c.from_residual.ensures.1 (refuses_first _ _ c.in_err-making.field-0.0 c.in_err-making.ensures)

pub make-made-requires : goal.make-made-requires
make-made-requires c = sym c.in_ok-making.ensures

pub returns-in_err-made-clause-answered : goal.returns-in_err-made-clause-answered
returns-in_err-made-clause-answered c =
    hands_on c.from_residual-in_err-made.result _ c.from_residual-in_err-made.ensures.1
    (ap answer (sym c.in_err-made.was) ∙ c.make-made.ensures.0 ∙ sym (first_after _ _ (making_numbered _ _ _ _) (sym c.in_ok-making.ensures)))

pub returns : goal.returns
returns c =
    let done = ap answer c.in_ok-made.was in
    let keys = c.make-made.ensures.1 done in
    record {
      answered = sym done ∙ c.make-made.ensures.0 ∙ sym (first_after _ _ (making_numbered _ _ _ _) (sym c.in_ok-making.ensures));
      made = (keys.0, keys.1, c.make-made.ensures.2);
    }
