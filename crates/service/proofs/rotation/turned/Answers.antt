-- `turned` sets the bits of the positions that were moved on.
use mathlib.Core.Path.{◌≡◌, sym, ap, ◌∙◌}
use Prim.Native.Nat.{ℕ, ◌<◌}
use native.Mathlib.Omega.{arith}
use lib.ListN.{length, replicate, length-replicate}
use lib.Seq.{length-take-le}
use Rattle.ring.specs.Polynomials.{support}
use Rattle.ring.specs.inner.Sizes.{words}
use Rattle.ring.proofs.Rotations.{support-turned}
use Rattle.service.specs.Rotation.{turned}
use Rattle.service.proofs.Positions.{moved_below}
use Rattle.service.proofs.rotation.turned.Goals as goal

pub place-requires : goal.place-requires
place-requires c =
    let zeros = c.filled-x.ensures in
    let long : length c.filled-x.result ≡ words = ap length zeros ∙ length-replicate {A = ℕ} words 0 in
    let pos : 0 < c.args.r = omega arith in
    record {
      fact_1 = zeros ∙ ap (λ (n : ℕ). replicate n 0) (sym long);
      fact_2 = rw c.moved_on-list.ensures.1 (λ p listed. let below = moved_below c.args.r c.args.k pos c.args.h.now c.requires.fact_2 p listed in omega (arith, long));
    }

pub returns : goal.returns
unfolding support turned
returns c =
    let pos : 0 < c.args.r = omega arith in
    (rw c.moved_on-list.ensures.1 at c.place.ensures) ∙ support-turned c.args.r pos c.args.k c.args.h.now c.requires.fact_2

pub slice_bounds-place-end : goal.slice_bounds-place-end
slice_bounds-place-end c = sym (length-take-le _ _ (omega (arith, c.moved_on-list.ensures.0)))
