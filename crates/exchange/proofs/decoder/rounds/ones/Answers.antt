-- `ones`: past r no bit is set.
use mathlib.Core.Path.{◌∙◌}
use native.Mathlib.Omega.{arith}
use Rattle.ring.proofs.Weights.{weight_in}
use Rattle.exchange.proofs.decoder.Laws.{few_words}
use Rattle.exchange.proofs.decoder.rounds.ones.Goals as goal

pub returns : goal.returns
returns c =
    c.weight.ensures
    ∙ weight_in _ _ c.requires (omega (arith, c.block.ensures))

pub weight-requires : goal.weight-requires
weight-requires c = few_words _ _ c.block.ensures
