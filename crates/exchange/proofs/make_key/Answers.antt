-- `make_key` clears its outputs where no keys were made.
use mathlib.Core.Path.{sym, ◌∙◌}
use Rattle.hashing.proofs.Answers.{done, refuses, done_reports, refuses_reports}
use Rattle.exchange.specs.Promises.{make_key_says}
use Rattle.exchange.proofs.Judged.{failed, got}
use Rattle.exchange.proofs.make_key.Goals as goal

pub returns-then-is_err : goal.returns-then-is_err
unfolding make_key_says
returns-then-is_err c =
    let why = failed c.judged-made.result (sym c.is_err.ensures.value ∙ c.if-is_err.true) in
    let first = rw why.1 at c.judged-made.ensures.answered in
    record {
      make_key_promise = rw (why.1, c.zero.ensures, c.zero-then-is_err.ensures, c.judged-made.auto.public_key, c.judged-made.auto.private_key)
          (sym (refuses _ _ why.0 first));
      key_count_promise = rw why.1 (sym (refuses_reports _ _ _ why.0 first));
    }

pub returns-else-is_err : goal.returns-else-is_err
unfolding make_key_says
returns-else-is_err c =
    let made = got c.judged-made.result (sym c.is_err.ensures.value ∙ c.if-is_err.false) c.judged-made.ensures.made in
    let none = sym (rw made.1 at c.judged-made.ensures.answered) in
    let is = made.2 in
    record {
      make_key_promise = rw (made.1, done _ _ none, is.0, is.1);
      key_count_promise = rw made.1 (is.2 ∙ sym (done_reports _ _ _ none));
    }
