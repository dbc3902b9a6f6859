-- `place` puts in the positions: before turn i the bits are those of the first i.
use mathlib.Core.Path.{refl, ap, ◌∙◌, fun_ext}
use Prim.Native.Nat.{◌<◌}
use native.Mathlib.Omega.{arith}
use lib.ListN.{length, get_or}
use Rattle.hashing.specs.Lists.{bits}
use Rattle.hashing.proofs.Words.{bits_none}
use Rattle.ring.specs.Polynomials.{listed}
use Rattle.exchange.proofs.error.Laws.{listed_at, placed_more}
use Rattle.exchange.proofs.error.place.Goals as goal

pub loop-i-init : goal.loop-i-init
unfolding listed
loop-i-init c =
    (omega arith, refl, ap (bits 64) c.requires.fact_1 ∙ fun_ext (bits_none 64 (length c.args.out.now)))

pub put-requires : goal.put-requires
put-requires c =
    let list = c.args.list.now in
    let more : c.loop-i.i < length list = omega arith in
    let within = c.requires.fact_2 (get_or list c.loop-i.i 0) (listed_at list c.loop-i.i more) in
    omega (arith, c.loop-i.invariant.1)

pub loop-i-preserved : goal.loop-i-preserved
loop-i-preserved c =
    let list = c.args.list.now in
    let more : c.loop-i.i < length list = omega arith in
    (omega arith, c.put.auto.out ∙ c.loop-i.invariant.1, placed_more list c.loop-i.i more c.loop-i.invariant.2 c.put.ensures)
