-- `fair_polynomial` clears its output where nothing was written.
use mathlib.Core.Path.{sym, ◌∙◌}
use Rattle.hashing.proofs.Answers.{done, refuses, done_reports, refuses_reports}
use Rattle.exchange.specs.Promises.{fair_says}
use Rattle.exchange.proofs.Judged.{failed, got}
use Rattle.exchange.proofs.fair_polynomial.Goals as goal

pub returns-then-is_err : goal.returns-then-is_err
unfolding fair_says
returns-then-is_err c =
    let why = failed c.write-drawn.result (sym c.is_err.ensures.value ∙ c.if-is_err.true) in
    let first = rw why.1 at c.write-drawn.ensures.answered in
    record {
      fair_promise = rw (why.1, c.zero.ensures, c.write-drawn.auto.out) (sym (refuses _ _ why.0 first));
      fair_count_promise = rw why.1 (sym (refuses_reports _ _ _ why.0 first));
    }

pub returns-else-is_err : goal.returns-else-is_err
unfolding fair_says
returns-else-is_err c =
    let drawn = got c.write-drawn.result (sym c.is_err.ensures.value ∙ c.if-is_err.false) c.write-drawn.ensures.written in
    let none = sym (rw drawn.1 at c.write-drawn.ensures.answered) in
    let is = drawn.2 in
    record {
      fair_promise = rw (drawn.1, done _ _ none, is.0);
      fair_count_promise = rw (drawn.1, is.1, is.2) (sym (done_reports _ _ _ none));
    }
