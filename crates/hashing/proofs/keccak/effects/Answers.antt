-- `hashing::keccak::effects`: step 2 of θ for each column.
use mathlib.Core.Path.{◌∙◌}
use Rattle.hashing.proofs.keccak.Laws.{five, effect_of}
use Rattle.hashing.proofs.keccak.effects.Goals as goal

pub returns : goal.returns
returns c =
    let lawful = effect_of _ _ c.columns-c.ensures in
    five _ (c.effect.ensures ∙ lawful 0) (c.effect-2.ensures ∙ lawful 1)
    (c.effect-3.ensures ∙ lawful 2) (c.effect-4.ensures ∙ lawful 3) (c.effect-5.ensures ∙ lawful 4)
