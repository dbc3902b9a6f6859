-- `words::weight` meets its contract: i words are counted. Assumes nothing.
use mathlib.Core.Path.{refl, ap, ◌∙◌}
use Prim.Native.Nat.{ℕ, ◌+◌, ◌≤◌}
use native.Mathlib.Omega.{arith}
use borrow.Author.Rules.{rules}
use lib.Count.{ones, ones-le}
use lib.ListN.{get_or}
use mir.Syntax.{w64}
use mir.Val.{Fits}
use Rattle.ring.specs.Polynomials.{weight}
use Rattle.ring.proofs.words.Laws.{ones_more}
use Rattle.ring.proofs.words.weight.Goals as goal
use Rattle.ring.proofs.words.weight.Goals.{In-loop-i}

pub loop-i-init : goal.loop-i-init
unfolding weight
loop-i-init c = (omega arith, omega arith, refl)

fits : (c : In-loop-i) → Fits w64 (get_or c.args.a c.loop-i.i 0)
fits c = search rules

small : (c : In-loop-i) → ones (get_or c.args.a c.loop-i.i 0) ≤ 64
small c = ones-le 64 (get_or c.args.a c.loop-i.i 0) (fits c).fits

pub loop-i-preserved : goal.loop-i-preserved
loop-i-preserved c = let l = c.loop-i in
    let a = c.args.a in
    (omega arith, omega (arith, small (goal.at.loop-i-preserved c).In-loop-i), ap (λ (n : ℕ). n + ones (get_or a l.i 0)) l.invariant.2 ∙ ones_more a l.i (fits (goal.at.loop-i-preserved c).In-loop-i).fits)
