-- `words::place` meets its contract: i words are in place. Assumes nothing.
use mathlib.Core.Path.{◌≡◌, refl, ◌∙◌}
use Prim.Native.Nat.{◌+◌}
use native.Mathlib.Nat.{not-suc-le-zero}
use native.Mathlib.Omega.{arith}
use lib.ListN.{length, get_or, length-set}
use Rattle.ring.proofs.words.Laws.{written, outside}
use Rattle.ring.proofs.words.place.Goals as goal

pub loop-i-preserved : goal.loop-i-preserved
loop-i-preserved c =
    let l = c.loop-i in
    let a = c.args in
    let v = get_or a.b.now l.i 0 in (
      omega arith,
      length-set l.t (a.at + l.i) v ∙ l.invariant.1,
      outside (λ j y. y ≡ get_or a.b.now j 0) l.t a.t.now a.at l.i v l.invariant.2,
      written (λ j y. y ≡ get_or a.b.now j 0) l.t a.at l.i v (omega arith) l.invariant.3 refl,
    )

pub returns : goal.returns
returns c =
    let l = c.loop-i in
    let all : l.i ≡ length c.args.b.now = omega arith in
    record { outside = rw (← all) l.invariant.2; by_index = rw (← all) l.invariant.3 }

pub loop-i-init : goal.loop-i-init
loop-i-init c = (omega arith, refl, (λ j h. refl), λ j h. absurd (not-suc-le-zero h))

pub shape_of-t : goal.shape_of-t
shape_of-t c = c.loop-i.invariant.1
