-- `making_door` looks at the report's length where key making's judge finds nothing.
use mathlib.Core.Path.{sym, ◌∙◌}
use Rattle.hashing.proofs.Answers.{last_applies, last_clear}
use Rattle.exchange.proofs.Judged.{fits, misses, hands_on, refuses_first, making_numbered, making_door_first}
use Rattle.exchange.proofs.judge.making_door.Goals as goal

pub returns-in_err-making : goal.returns-in_err-making
returns-in_err-making c =
    hands_on c.from_residual.result _ c.from_residual.ensures.1
    (refuses_first _ _ c.in_err-making.field-0.0 c.in_err-making.ensures ∙ sym (making_door_first _ _ _ _ _))

pub returns-then-room_report-ne-REPORT : goal.returns-then-room_report-ne-REPORT
returns-then-room_report-ne-REPORT c =
    sym (making_door_first _ _ _ _ _ ∙ last_applies _ _ (making_numbered _ _ _ _) (sym c.in_ok-making.ensures) (misses _ _ c.if-room_report-ne-REPORT.true))

pub returns : goal.returns
returns c =
    sym (making_door_first _ _ _ _ _ ∙ last_clear _ (record { applies = _; number = 2 }) (making_numbered _ _ _ _) (sym c.in_ok-making.ensures) (fits _ _ c.if-room_report-ne-REPORT.false))
