-- `moved_on` moves the positions on: before turn i the first i are there.
use mathlib.Core.Path.{◌≡◌, refl, ◌∙◌}
use Prim.Native.Nat.{ℕ, ◌+◌, ◌≤◌, ◌<◌}
use native.Mathlib.Nat.{mod-lt}
use native.Mathlib.Omega.{arith}
use lib.ListN.{length, get_or, length-set, length-replicate}
use lib.Seq.{take_all}
use Rattle.ring.specs.inner.Sizes.{most_d}
use Rattle.service.proofs.Positions.{at_below, moved_more}
use Rattle.service.proofs.rotation.moved_on.Goals as goal
use Rattle.service.proofs.rotation.moved_on.Goals.{In-loop-i}

-- the position of this turn
below : (c : In-loop-i) →
    get_or c.args.h.now c.loop-i.i 0 < c.args.r
below c =
    let more : c.loop-i.i < length c.args.h.now = omega arith in
    at_below c.args.r c.args.h.now c.requires.fact_2 c.loop-i.i more

pub moved-requires : goal.moved-requires
moved-requires c =
    (below (goal.at.moved-requires c).In-loop-i, omega arith, c.requires.fact_1.1)

pub overflow_cast-list : goal.overflow_cast-list
overflow_cast-list c =
    let pos : 0 < c.args.r = omega arith in
    omega (arith, c.moved.ensures, mod-lt (get_or c.args.h.now c.loop-i.i 0 + c.args.k) pos)

pub loop-i-preserved : goal.loop-i-preserved
loop-i-preserved c =
    let more : c.loop-i.i < length c.args.h.now = omega arith in
    let room : c.loop-i.i < length c.loop-i.list = omega arith in (
      omega arith,
      simp length-set c.loop-i.invariant.1,
      moved_more c.args.r c.args.k c.args.h.now c.loop-i.list c.loop-i.i c.moved.result more room c.moved.ensures c.loop-i.invariant.2,
    )

pub returns : goal.returns
returns c =
    let done = c.loop-i in
    let h = c.args.h.now in
    let all : done.i ≡ length h = omega arith in
    let whole : length h ≤ done.i = omega arith in
    (done.invariant.1, rw (← all) (done.invariant.2 ∙ rw (take_all done.i h whole)))

pub loop-i-init : goal.loop-i-init
loop-i-init c = (omega arith, length-replicate {A = ℕ} most_d 0, refl)
