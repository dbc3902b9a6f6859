-- `find_early`: the error where the rounds stopped is kept where its residual has no weight left.
use mathlib.Core.Path.{◌≡◌, ap, ap₂, ◌∙◌}
use native.Mathlib.Omega.{arith}
use lib.Dec.{ltb}
use Rattle.hashing.specs.Lists.{bits}
use Rattle.ring.specs.Levels.{level_of}
use Rattle.ring.specs.Polynomials.{weight}
use Rattle.ring.proofs.Levels.{sizes}
use Rattle.exchange.specs.decoder.Decoder.{residual, bgf, failed, found}
use Rattle.exchange.specs.inner.Working.{key_of, kept}
use Rattle.exchange.proofs.decoder.Laws.{weight_le}
use Rattle.exchange.proofs.decoder.early.find_early.Goals as goal

-- what is left is at most r
pub kept-requires : goal.kept-requires
kept-requires c =
    let is = c.until_gone-at.ensures in
    let few = weight_le (level_of c.args.level).r (bits 64 c.until_gone-at.result.state.x) in
    record { fact_1 = omega (arith, is.2, sizes c.args.level); fact_2 = is.0.1 }

pub returns : goal.returns
unfolding failed found
returns c =
    let start = c.args in
    let l = level_of start.level in
    let h = key_of l start.key in
    let is = c.until_gone-at.ensures in
    let left = is.0.0 ∙ ap (residual l.r h (bits 64 start.s)) is.1 in
    let fails : ltb 0 c.until_gone-at.result.left ≡ failed bgf l h (bits 64 start.s) = ap (ltb 0) (is.2 ∙ ap (weight l.r) left) in
    let error = c.kept.ensures ∙ ap₂ kept fails is.1 in
    (fails, error, is.3)
