-- `next` reads a line of the record reader, and looks at its thing and level.
use native.Mathlib.Omega.{arith}
use borrow.Author.Tests.{eq-eqb}
use Rattle.std.proofs.lemmas.Result.{err_from_is_err_and}
use Rattle.hashing.specs.Answers.{differs}
use Rattle.batch.specs.Triples.{turn}
use Rattle.batch.proofs.Lines.{refused_turn, other_turn, whole_turn}
use Rattle.batch.proofs.records.next.Goals as goal

pub returns-then-bytes-at : goal.returns-then-bytes-at
unfolding turn
returns-then-bytes-at c = rw (eq-eqb _ _ c.if-bytes-at.true, turn)

pub returns-in_err-found : goal.returns-in_err-found
returns-in_err-found c =
    let read = c.line_at-line in
    let p = err_from_is_err_and c.from_residual.result c.from_residual.ensures.1 in
    rw (p.1, p.2)
    (refused_turn _ _ _ _ read.result (omega (arith, read.ensures.onward, read.ensures.within)) read.ensures c.in_err-found.field-0.0 c.in_err-found.was)

pub returns-then-number-thing : goal.returns-then-number-thing
unfolding differs
returns-then-number-thing c =
    let read = c.line_at-line in
    other_turn _ _ _ _ read.result (omega (arith, read.ensures.onward, read.ensures.within)) read.ensures c.in_ok-found.found c.in_ok-found.was
    (rw c.number.ensures at c.if-number-thing.true)

pub returns : goal.returns
unfolding differs
returns c =
    let read = c.line_at-line in
    whole_turn _ _ _ _ read.result (omega (arith, read.ensures.onward, read.ensures.within)) read.ensures c.in_ok-found.found c.in_ok-found.was
    (rw c.number.ensures at c.if-number-thing.false)
