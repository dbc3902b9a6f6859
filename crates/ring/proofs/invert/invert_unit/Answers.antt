-- `invert_unit` is the power alone.
use mathlib.Core.Path.{◌∙◌}
use native.Mathlib.Omega.{arith}
use Rattle.ring.proofs.Chains.{chain_is}
use Rattle.ring.proofs.invert.Laws.{unit_inverse}
use Rattle.ring.proofs.invert.invert_unit.Goals as goal

pub returns : goal.returns
returns c =
    let r = c.args.r in
    let ha = c.requires.fact_2 in
    c.power-made.ensures.fact_1 ∙ chain_is r (omega arith) ha (omega arith) ∙ unit_inverse r (omega arith) c.requires.fact_1.3 ha c.requires.fact_4
