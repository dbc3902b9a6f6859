-- `write_two` writes one number after the other.
use mathlib.Core.Path.{◌≡◌, ap₂, ◌∙◌}
use mathlib.Core.List.{◌++◌}
use native.Mathlib.Omega.{arith}
use lib.ListN.{length, take}
use lib.Seq.{length-take-le}
use Rattle.exchange.proofs.Parts.{two_parts}
use Rattle.exchange.proofs.doors.write_two.Goals as goal
use Rattle.exchange.proofs.doors.write_two.Goals.{Start}

cut : (c : Start) → length (take 4 c.args.out.now) ≡ 4
cut c = length-take-le 4 c.args.out.now (omega arith)

pub returns : goal.returns
returns c =
    two_parts _ c.copy.new.out c.copy-2.new.out c.args.out.now (c.copy.auto.out ∙ cut (goal.at.returns c).Start)
    ∙ ap₂ ◌++◌ (c.copy.ensures ∙ c.four_bytes-b0.ensures) (c.copy-2.ensures ∙ c.four_bytes-b1.ensures)
