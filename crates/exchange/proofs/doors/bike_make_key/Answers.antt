-- `bike_make_key` clears its outputs where nothing was made.
use mathlib.Core.Path.{sym, ◌∙◌}
use Rattle.hashing.proofs.Answers.{done, refuses}
use Rattle.exchange.specs.Doors.{make_key_door_says}
use Rattle.exchange.proofs.Judged.{failed, got}
use Rattle.exchange.proofs.doors.bike_make_key.Goals as goal
use Rattle.exchange.proofs.doors.bike_make_key.Goals.{then-is_err, else-is_err}

pub returns : goal.returns
unfolding make_key_door_says
returns c =
    let says = c.make_key-made.ensures in
    let lengths = c.make_key-made.auto in
    elim c.if-is_err.branch [
      | then-is_err w ↦
          let why = failed c.make_key-made.result (sym c.is_err.ensures.value ∙ w.if-is_err.true) in
          let first = rw why.1 at says.answered in
          rw (w.public_key-is, w.private_key-is, w.report-is, w.zero.ensures, w.zero-then-is_err.ensures, w.zero-then-is_err-2.ensures, lengths.public_key, lengths.private_key, lengths.report, c.answer.ensures, why.1)
          (sym (refuses _ _ why.0 first))
      | else-is_err w ↦
          let made = got c.make_key-made.result (sym c.is_err.ensures.value ∙ w.if-is_err.false) says.made in
          let is = made.2 in
          rw (w.public_key-is, w.private_key-is, w.report-is, c.answer.ensures, made.1, is.0, is.1, is.2)
          (sym (done _ _ (sym (rw made.1 at says.answered))))
    ]
