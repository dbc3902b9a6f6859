-- `write_c0` stores the sum.
use native.Mathlib.Omega.{arith}
use Rattle.ring.specs.Bytes.{bytes_of}
use Rattle.ring.proofs.Levels.{sizes}
use Rattle.exchange.proofs.wrapping.write_c0.Goals as goal

pub sum-requires : goal.sum-requires
sum-requires c =
    let bounds = sizes c.args.level in
    let r = c.block-r.ensures in
    (omega arith, (λ k past. c.requires.fact_2 k (omega arith)), λ k past. c.requires.fact_3 k (omega arith))

pub returns : goal.returns
unfolding bytes_of
returns c =
    rw (c.sum.ensures, c.requires.fact_1) at c.store.ensures

pub store-requires : goal.store-requires
store-requires c = omega (arith, sizes c.args.level)
