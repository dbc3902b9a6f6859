-- `multiply::multiply` meets its contract. Assumes nothing.
use Prim.Native.Nat.{◌+◌, ◌/◌}
use native.Mathlib.Omega.{arith}
use Rattle.hashing.specs.Lists.{bits}
use Rattle.ring.proofs.multiply.Laws.{reduced}
use Rattle.ring.proofs.multiply.multiply.Goals as goal

pub returns : goal.returns
returns c = let a = c.args in
    let pre = c.requires in
    reduced a.r (a.r / 64 + 1) (bits 64 a.a) (bits 64 a.b) (bits 64 c.wide_product.result) (bits 64 c.reduce.result)
    (omega arith) (omega arith) pre.fact_2 pre.fact_3 c.wide_product.ensures c.reduce.ensures.0 c.reduce.ensures.1
