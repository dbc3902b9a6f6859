-- `make_key` reports where the report has its length and key making refuses nothing.
use mathlib.Core.Path.{◌≡◌, sym, ap, ◌∙◌}
use mathlib.Core.List.{◌++◌}
use lib.ListN.{length}
use Rattle.hashing.specs.Answers.{first_of}
use Rattle.hashing.proofs.Answers.{first_after}
use Rattle.ring.specs.Levels.{level_of}
use Rattle.exchange.specs.Doors.{report_of, making_door_reasons}
use Rattle.exchange.specs.Promises.{making_reasons, work_reasons}
use Rattle.exchange.proofs.Judged.{hands_on, refuses_first, making_numbered, making_door_numbered, making_door_clear}
use Rattle.exchange.proofs.doors.make_key.Goals as goal
use Rattle.exchange.proofs.doors.make_key.Goals.{In_ok-making_door}

pub returns-in_err-making_door-clause-answered : goal.returns-in_err-making_door-clause-answered
returns-in_err-making_door-clause-answered c =
    hands_on c.from_residual.result _ c.from_residual.ensures.1 (refuses_first _ _ c.in_err-making_door.field-0.0 c.in_err-making_door.ensures)

-- once the door is judged, what is refused is what key making refuses
same : (c : In_ok-making_door) →
    let given = c.args in
    let seed = given.seed.now in
    let work = work_reasons (level_of given.level) seed in
    first_of (making_reasons given.level seed (length given.public_key.now) (length given.private_key.now) ++ work)
    ≡ first_of (making_door_reasons given.level seed (length given.public_key.now) (length given.private_key.now) (length given.report.now) ++ work)
same c =
    let none = sym c.in_ok-making_door.ensures in
    first_after _ _ (making_numbered _ _ _ _) (making_door_clear _ _ _ _ _ none).0
    ∙ sym (first_after _ _ (making_door_numbered _ _ _ _ _) none)

pub returns-in_err-judged-clause-answered : goal.returns-in_err-judged-clause-answered
returns-in_err-judged-clause-answered c =
    hands_on c.from_residual-in_err-judged.result _ c.from_residual-in_err-judged.ensures.1
    (c.in_err-judged.ensures.answered ∙ same (goal.at.returns-in_err-judged-clause-answered c).In_ok-making_door)

pub write_report-requires : goal.write_report-requires
write_report-requires c = (making_door_clear _ _ _ _ _ (sym c.in_ok-making_door.ensures)).1

pub returns : goal.returns
returns c =
    let is = c.in_ok-judged.ensures in
    record {
      answered = is.answered ∙ same (goal.at.returns c).In_ok-making_door;
      made = (is.made.0, is.made.1, c.write_report.ensures ∙ ap report_of is.made.2);
    }
