-- `listed` looks the list through: before turn k it has looked at the first k positions.
use mathlib.Core.Path.{refl, sym}
use Prim.Native.Nat.{◌<◌}
use native.Mathlib.Numerals.{add-one}
use native.Mathlib.Omega.{arith}
use lib.ListN.{length, take}
use lib.Seq.{take-suc}
use Rattle.ring.specs.Polynomials.{listed}
use Rattle.exchange.proofs.sampler.Laws.{listed_snoc}
use Rattle.exchange.proofs.sampler.listed.Goals as goal

pub loop-k-preserved : goal.loop-k-preserved
loop-k-preserved c =
    let was = c.loop-k in
    let given = c.args in
    let list = given.list.now in
    let more : was.k < length list = omega arith in
    (omega arith, rw (was.invariant.1, add-one, take-suc list was.k 0 more) (sym (listed_snoc given.pos (take was.k list) _)))

pub loop-k-init : goal.loop-k-init
unfolding listed
loop-k-init c = (omega arith, refl)
