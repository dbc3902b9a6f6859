-- `find`: the error after five rounds is kept where its residual has no weight left.
use mathlib.Core.Path.{◌≡◌, ap, ap₂, ◌∙◌}
use native.Mathlib.Omega.{arith}
use lib.Dec.{ltb}
use Rattle.hashing.specs.Lists.{bits}
use Rattle.ring.specs.Levels.{level_of}
use Rattle.ring.specs.Polynomials.{weight}
use Rattle.ring.proofs.Levels.{sizes}
use Rattle.exchange.specs.decoder.Decoder.{residual, bgf, failed, found}
use Rattle.exchange.specs.inner.Working.{key_of, kept}
use Rattle.exchange.proofs.decoder.Laws.{carried_in, weight_le}
use Rattle.exchange.proofs.decoder.rounds.find.Goals as goal

-- what is left is at most r
pub kept-requires : goal.kept-requires
kept-requires c =
    let few = weight_le (level_of c.args.level).r (bits 64 c.rounds-st.result.x) in
    record { fact_1 = omega (arith, c.ones-left.ensures, sizes c.args.level); fact_2 = c.rounds-st.ensures.0.1 }

pub returns : goal.returns
unfolding failed found
returns c =
    let start = c.args in
    let l = level_of start.level in
    let h = key_of l start.key in
    let state = c.rounds-st.ensures in
    let left = state.0.0 ∙ ap (residual l.r h (bits 64 start.s)) state.1 in
    let fails : ltb 0 c.ones-left.result ≡ failed bgf l h (bits 64 start.s) = ap (ltb 0) (c.ones-left.ensures ∙ ap (weight l.r) left) in
    let is = c.kept.ensures ∙ ap₂ kept fails state.1 in
    (fails, is)

pub ones-left-requires : goal.ones-left-requires
ones-left-requires c = carried_in c.args.level _ _ _ c.requires.fact_2 c.rounds-st.ensures.0
