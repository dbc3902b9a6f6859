-- `rising`: before each turn the words gone through and the exponents listed are as many as the turns, and both have an end.
use mathlib.Core.Path.{◌≡◌, refl, ◌∙◌}
use Prim.Native.Nat.{ℕ, ◌+◌, ◌-◌, ◌/◌, ◌^◌, ◌≤◌, ◌<◌}
use native.Mathlib.Omega.{arith}
use borrow.Author.Rules.{rules}
use lib.Count.{count_trailing_zeros}
use lib.ListN.{get_or, length-set}
use mir.Syntax.{w64}
use mir.Val.{Fits}
use Rattle.ring.proofs.positions.Laws.{listing_start, listing_turn, listing_end, turn_fits}
use Rattle.ring.proofs.positions.rising.Goals as goal
use Rattle.ring.proofs.positions.rising.Goals.{In-loop-turn, Start}

small : (c : Start) (j : ℕ) → get_or c.args.x j 0 < 2 ^ 64
small c j = let f : Fits w64 (get_or c.args.x j 0) = search rules in f.fits

-- what a turn finds: a bit that there is room for, or a word to go on to
found : (c : In-loop-turn) →
    let was = c.loop-turn in
    let given = c.args in
    let t = count_trailing_zeros 64 (get_or was.left was.i 0) in
    (t ≤ 64) × (was.i + t / 64 ≤ given.r / 64) × (was.n + (1 - t / 64) ≤ given.count)
found c =
    let was = c.loop-turn in
    let small : (j : ℕ) → get_or c.args.x j 0 < 2 ^ 64 = λ j. let f : Fits w64 (get_or c.args.x j 0) = search rules in f.fits in
    rw (← c.requires.fact_3)
    (turn_fits c.args.x small was.invariant.5 c.args.r c.requires.fact_2 (omega arith) _ refl (omega arith) (omega arith))

pub loop-turn-preserved : goal.loop-turn-preserved
loop-turn-preserved c =
    let was = c.loop-turn in
    let turn = found (goal.at.loop-turn-preserved c).In-loop-turn in
    let rest = c.without_lowest.ensures in (
      omega arith,
      omega arith,
      omega arith,
      length-set was.out was.n _ ∙ was.invariant.3,
      length-set was.left was.i _ ∙ was.invariant.4,
      listing_turn c.args.x (small (goal.at.loop-turn-preserved c).Start) was.invariant.5 _ _ refl rest.0 rest.1 (omega arith) (omega arith),
    )

pub returns : goal.returns
returns c =
    let was = c.loop-turn in
    let all : was.n ≡ c.args.count = omega arith in
    rw (← all)
    (listing_end c.args.x (small (goal.at.returns c).Start) was.invariant.5 c.args.r c.requires.fact_2 (omega arith) (omega (arith, c.requires.fact_3)) (omega arith))

pub loop-turn-init : goal.loop-turn-init
loop-turn-init c = (omega arith, omega arith, omega arith, refl, omega arith, listing_start c.args.x (small (goal.at.loop-turn-init c).Start) _)
