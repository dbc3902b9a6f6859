-- `invert` is decided by the product with a.
use mathlib.Core.Path.{◌∙◌}
use native.Mathlib.Omega.{arith}
use Rattle.hashing.specs.Lists.{bits}
use Rattle.ring.specs.Polynomials.{InRing}
use Rattle.ring.proofs.Chains.{chain_is}
use Rattle.ring.proofs.Powers.{pow_in}
use Rattle.ring.proofs.Ring.{mul_comm}
use Rattle.ring.proofs.invert.Laws.{decided}
use Rattle.ring.proofs.invert.invert.Goals as goal

pub times-requires : goal.times-requires
times-requires c =
    let made = c.power-made in
    let r = c.args.r in
    let ha = c.requires.fact_2 in
    let inside : InRing r (bits 64 made.result.value) = rw (made.ensures.fact_1, chain_is r (omega arith) ha (omega arith)) (pow_in r (omega arith) _ _) in
    record { fact_1 = (omega arith, omega arith, omega arith); fact_2 = (inside, ha); fact_3 = c.requires.fact_3 }

pub returns : goal.returns
returns c =
    let r = c.args.r in
    let ha = c.requires.fact_2 in
    let told = decided r (omega arith) c.requires.fact_1.3 ha _ (c.power-made.ensures.fact_1 ∙ chain_is r (omega arith) ha (omega arith))
    (c.times.ensures ∙ mul_comm r _ _) c.is_one.result (c.is_one.ensures r) in
    record {
      fact_1 = rw c.then_some.ensures told.0;
      fact_2 = rw c.then_some.ensures told.1;
      fact_3 = c.power-made.ensures.fact_2;
    }
