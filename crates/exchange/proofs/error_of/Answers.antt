-- `error_of` gives H where its judge finds nothing.
use mathlib.Core.Path.{sym}
use Rattle.hashing.proofs.Answers.{done, refuses, done_reports, refuses_reports}
use Rattle.exchange.specs.Promises.{error_of_says}
use Rattle.exchange.proofs.Judged.{error_clear}
use Rattle.exchange.proofs.error_of.Goals as goal

pub returns-in-Err : goal.returns-in-Err
unfolding error_of_says
returns-in-Err c =
    record {
      error_of_promise = rw (c.zero.ensures, c.zero-in-Err.ensures) (sym (refuses _ _ c.in-Err.refusal c.in-Err.ensures));
      error_count_promise = sym (refuses_reports _ _ _ c.in-Err.refusal c.in-Err.ensures);
    }

pub hash_h-requires : goal.hash_h-requires
hash_h-requires c = let is = error_clear (sym c.in_default.ensures) in (is.room0_is, is.room1_is)

pub returns : goal.returns
unfolding error_of_says
returns c =
    let none = sym c.in_default.ensures in
    record {
      error_of_promise = rw (done _ _ none, c.hash_h.ensures.0, c.hash_h.ensures.1);
      error_count_promise = rw c.hash_h.ensures.2 (sym (done_reports _ _ _ none));
    }
