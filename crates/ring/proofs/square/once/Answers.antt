-- `once`: what stands at (r + 1) / 2 places above is what a square has at its odd places.
use mathlib.Core.Path.{sym, ap, ◌∙◌}
use Prim.Native.Nat.{◌+◌, ◌/◌, ◌<◌}
use native.Mathlib.Omega.{arith}
use Rattle.hashing.specs.Lists.{bits}
use Rattle.ring.specs.inner.Even.{source}
use Rattle.ring.specs.Polynomials.{Poly}
use Rattle.ring.proofs.Powers.{spread_in, spread_at}
use Rattle.ring.proofs.Ring.{ring_ext}
use Rattle.ring.proofs.square.Laws.{half_unit, half_place}
use Rattle.ring.proofs.square.once.Goals as goal

pub returns : goal.returns
unfolding source
returns c =
    let r = c.args.r in
    let x = bits 64 c.args.x in
    let middle = (r + 1) / 2 in
    let pos : 0 < r = omega arith in
    ring_ext r c.cut.ensures.fact_1 (spread_in r pos 2 x)
    (λ k below.
    c.cut.ensures.fact_2 k below ∙ c.doubled.ensures.fact_2 k (omega arith) ∙ ap (λ (p : Poly). p (source middle k)) c.padded-d.ensures
    ∙ ap x (sym (half_place r k (omega arith) below)) ∙ sym (spread_at r pos 2 middle (half_unit r (omega arith) (omega arith)) x k below))
