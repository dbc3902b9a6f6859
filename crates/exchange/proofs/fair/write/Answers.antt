-- `write` writes what is drawn where its judge finds nothing and the words did not run out.
use mathlib.Core.Path.{refl, sym, ◌∙◌}
use native.Mathlib.Omega.{arith}
use Rattle.hashing.specs.Answers.{first_of}
use Rattle.hashing.proofs.Answers.{first_after}
use Rattle.ring.specs.Bytes.{bytes_of}
use Rattle.ring.proofs.Levels.{sizes}
use Rattle.exchange.proofs.Judged.{hands_on, refuses_first, fair_clear, fair_numbered}
use Rattle.exchange.specs.Promises.{fair_work}
use Rattle.exchange.proofs.fair.write.Goals as goal

pub returns-in_err-fair-clause-answered : goal.returns-in_err-fair-clause-answered
returns-in_err-fair-clause-answered c =
    hands_on c.from_residual.result _ c.from_residual.ensures.1 (refuses_first _ _ c.in_err-fair.field-0.0 c.in_err-fair.ensures)

pub polynomial-drawn-requires : goal.polynomial-drawn-requires
polynomial-drawn-requires c = (fair_clear (sym c.in_ok-fair.ensures)).few_words

pub returns-then-drawn-clause-answered : goal.returns-then-drawn-clause-answered
unfolding fair_work first_of
returns-then-drawn-clause-answered c =
    sym (first_after _ _ (fair_numbered _ _ _) (sym c.in_ok-fair.ensures) ∙ rw (sym c.polynomial-drawn.ensures.1 ∙ c.if-drawn.true) refl)

pub store-requires : goal.store-requires
store-requires c = omega (arith, (fair_clear (sym c.in_ok-fair.ensures)).room_is, sizes c.args.level)

pub returns : goal.returns
unfolding bytes_of fair_work first_of
returns c =
    let none = sym c.in_ok-fair.ensures in
    let is = c.polynomial-drawn.ensures in
    record {
      answered = sym (first_after _ _ (fair_numbered _ _ _) none ∙ rw (sym is.1 ∙ c.if-drawn.false) refl);
      written = (rw (c.store.ensures, is.0, (fair_clear none).room_is), is.2, is.3);
    }
