-- `draw` goes on from what is listed: before each turn, drawing the words that are left comes to the drawing of all.
use mathlib.Core.Path.{refl, sym, ap, ◌∙◌}
use Prim.Native.Nat.{◌≤◌, ◌<◌}
use native.Mathlib.Omega.{arith}
use lib.ListN.{length, take, drop, length-set}
use lib.Seq.{length-take-le}
use Rattle.exchange.specs.Fair.{Drawn, draw}
use Rattle.exchange.proofs.fair.Laws.{held, draw_full, draw_end, draw-turn}
use Rattle.exchange.proofs.fair.draw.Goals as goal

pub loop-listed-init : goal.loop-listed-init
unfolding draw
loop-listed-init c = (refl, omega arith, omega arith, omega arith, refl)

pub returns-then-at-words : goal.returns-then-at-words
returns-then-at-words c =
    let was = c.loop-listed in
    let given = c.args in
    let all =
    draw_end given.r (length given.list.now) given.mask given.words.now was.list was.listed was.used c.search-at.result
    was.invariant.0 (omega arith) was.invariant.2 c.search-at.ensures.0 c.search-at.ensures.2 c.if-at-words.true in
    let is = sym all ∙ was.invariant.4 in
    (ap (λ (so : Drawn). so.positions) is, ap (λ (so : Drawn). so.used) is, omega arith)

pub loop-listed-preserved : goal.loop-listed-preserved
loop-listed-preserved c =
    let was = c.loop-listed in
    let given = c.args in
    let found = c.search-at.ensures in
    let more : c.search-at.result < length given.words.now = omega arith in (
      simp length-set was.invariant.0,
      simp length-set (omega arith),
      omega arith,
      omega arith,
      draw-turn given.r (length given.list.now) given.mask given.words.now was.list was.listed was.used c.search-at.result
          was.invariant.0 (omega arith) was.invariant.2 found.0 found.2 more (found.3 more)
          ∙ was.invariant.4,
    )

pub returns : goal.returns
returns c =
    let was = c.loop-listed in
    let given = c.args in
    let long : length given.list.now ≤ length (take was.listed was.list) = omega (arith, length-take-le was.listed was.list was.invariant.1) in
    let is = sym (draw_full given.r (length given.list.now) given.mask (drop was.used given.words.now) (held (take was.listed was.list) was.used) long) ∙ was.invariant.4 in
    (ap (λ (so : Drawn). so.positions) is, ap (λ (so : Drawn). so.used) is, omega arith)
