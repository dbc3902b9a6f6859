-- `differences` weighs the sum of each half.
use mathlib.Core.Path.{◌≡◌, ap, ap₂, ◌∙◌}
use Prim.Native.Nat.{ℕ, ◌+◌, ◌*◌, ◌/◌, ◌≤◌}
use native.Mathlib.Omega.{arith}
use Rattle.hashing.specs.Lists.{bits}
use Rattle.ring.specs.Levels.{level_of}
use Rattle.ring.specs.Polynomials.{InRing, weight, add}
use Rattle.ring.specs.inner.Sizes.{words}
use Rattle.ring.proofs.Levels.{sizes}
use Rattle.ring.proofs.Ring.{add_in}
use Rattle.ring.proofs.Weights.{weight_in}
use Rattle.exchange.proofs.decoder.Laws.{in_words, few_words, weight_le}
use Rattle.exchange.proofs.opening.differences.Goals as goal
use Rattle.exchange.proofs.opening.differences.Goals.{After-block, After-weight-d0, After-weight-d1}

few : (c : After-block) → c.block.result / 64 + 1 ≤ words
few c = few_words c.args.level c.block.result c.block.ensures

wide : (c : After-block) {a : ℕ → _} → InRing (level_of c.args.level).r a → InRing (64 * (c.block.result / 64 + 1)) a
wide c inside = in_words c.block.result (rw c.block.ensures inside)

first : (c : After-weight-d0) →
    let given = c.args in
    c.weight-d0.result ≡ weight (level_of given.level).r (add (bits 64 given.e.half0) (bits 64 given.f.half0))
first c =
    let r = (level_of c.args.level).r in
    c.weight-d0.ensures ∙ ap (weight (64 * (c.block.result / 64 + 1))) c.sum.ensures
    ∙ weight_in r (64 * (c.block.result / 64 + 1)) (add_in r c.requires.fact_1.0 c.requires.fact_2.0) (omega (arith, c.block.ensures))

second : (c : After-weight-d1) →
    let given = c.args in
    c.weight-d1.result ≡ weight (level_of given.level).r (add (bits 64 given.e.half1) (bits 64 given.f.half1))
second c =
    let r = (level_of c.args.level).r in
    c.weight-d1.ensures ∙ ap (weight (64 * (c.block.result / 64 + 1))) c.sum-2.ensures
    ∙ weight_in r (64 * (c.block.result / 64 + 1)) (add_in r c.requires.fact_1.1 c.requires.fact_2.1) (omega (arith, c.block.ensures))

pub overflow_add-result : goal.overflow_add-result
overflow_add-result c =
    let given = c.args in
    let r = (level_of given.level).r in
    omega (arith, first (goal.at.overflow_add-result c).After-weight-d0, second (goal.at.overflow_add-result c).After-weight-d1, weight_le r (add (bits 64 given.e.half0) (bits 64 given.f.half0)), weight_le r (add (bits 64 given.e.half1) (bits 64 given.f.half1)), sizes given.level)

pub sum-requires : goal.sum-requires
sum-requires c = (few (goal.at.sum-requires c).After-block, wide (goal.at.sum-requires c).After-block c.requires.fact_1.0, wide (goal.at.sum-requires c).After-block c.requires.fact_2.0)

pub weight-d0-requires : goal.weight-d0-requires
weight-d0-requires c = few (goal.at.weight-d0-requires c).After-block

pub sum-requires-2 : goal.sum-requires-2
sum-requires-2 c = (few (goal.at.sum-requires-2 c).After-block, wide (goal.at.sum-requires-2 c).After-block c.requires.fact_1.1, wide (goal.at.sum-requires-2 c).After-block c.requires.fact_2.1)

pub weight-d1-requires : goal.weight-d1-requires
weight-d1-requires c = few (goal.at.weight-d1-requires c).After-block

pub returns : goal.returns
returns c = ap₂ ◌+◌ (first (goal.at.returns c).After-weight-d0) (second (goal.at.returns c).After-weight-d1)
