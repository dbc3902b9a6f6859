-- `write_report` writes the numbers of one half after those of the other.
use mathlib.Core.Path.{◌≡◌, ap₂, ◌∙◌}
use mathlib.Core.List.{◌++◌}
use native.Mathlib.Omega.{arith}
use lib.ListN.{length, take}
use lib.Seq.{length-take-le}
use Rattle.exchange.specs.Doors.{four_bytes, report_of}
use Rattle.exchange.proofs.Parts.{two_parts}
use Rattle.exchange.proofs.doors.write_report.Goals as goal
use Rattle.exchange.proofs.doors.write_report.Goals.{After-write_two, Start}

cut : (c : Start) → length (take 8 c.args.report.now) ≡ 8
cut c = length-take-le 8 c.args.report.now (omega arith)

pub returns : goal.returns
unfolding report_of four_bytes
returns c =
    two_parts _ c.write_two.new.out c.write_two-2.new.out c.args.report.now (c.write_two.auto.out ∙ cut (goal.at.returns c).Start)
    ∙ ap₂ ◌++◌ c.write_two.ensures c.write_two-2.ensures
