-- `both_ends` clears its outputs where they are not the keys.
use mathlib.Core.Path.{sym, ◌∙◌}
use Rattle.hashing.proofs.Answers.{done, refuses, numbered}
use Rattle.exchange.proofs.Judged.{failed, got}
use Rattle.both_ends.specs.BothEnds.{both_ends_says}
use Rattle.both_ends.proofs.both_ends.Goals as goal

pub returns-then-is_err : goal.returns-then-is_err
unfolding both_ends_says
returns-then-is_err c =
    let why = failed c.run-done.result (sym c.is_err.ensures.value ∙ c.if-is_err.true) in
    let first = rw why.1 at c.run-done.ensures.answered in
    record {
      both_ends_promise = rw (why.1, c.zero.ensures, c.zero-then-is_err.ensures, c.run-done.auto.sent, c.run-done.auto.opened)
          (sym (refuses _ _ why.0 first));
      agree = λ zero. absurd (numbered why.0 (rw why.1 at zero));
    }

pub returns-else-is_err : goal.returns-else-is_err
unfolding both_ends_says
returns-else-is_err c =
    let ran = got c.run-done.result (sym c.is_err.ensures.value ∙ c.if-is_err.false) c.run-done.ensures.keys in
    let is = ran.2 in
    record {
      both_ends_promise = rw (ran.1, done _ _ (sym (rw ran.1 at c.run-done.ensures.answered)), is.0, is.1);
      agree = λ zero. is.2;
    }
