-- `unpacked` lays out the bits of the bytes of x, and repeats the first r.
use native.Mathlib.Omega.{arith}
use Rattle.hashing.specs.Lists.{bits}
use Rattle.ring.proofs.unpack.Laws.{twice}
use Rattle.ring.proofs.unpack.unpacked.Goals as goal

pub returns : goal.returns
returns c =
    let x = c.args.x in
    let r = c.args.r in
    let copied = c.repeat in
    twice r (bits 64 x) c.lay.new.out copied.new.out (λ k below. c.lay.ensures.by_index k (omega arith)) copied.ensures.by_index copied.ensures.by_index_2
