-- `rounds`: before turn i the error is that after i rounds, and its residual goes with it.
use mathlib.Core.Path.{◌≡◌, sym, ap, ◌∙◌}
use native.Mathlib.Omega.{arith}
use Rattle.hashing.specs.Lists.{bits}
use Rattle.ring.specs.Levels.{level_of}
use Rattle.exchange.specs.decoder.Decoder.{step, after, bgf}
use Rattle.exchange.specs.inner.Working.{key_of}
use Rattle.exchange.proofs.decoder.Laws.{carried_first, after_more}
use Rattle.exchange.proofs.decoder.rounds.rounds.Goals as goal

pub loop-i-init : goal.loop-i-init
unfolding after
loop-i-init c =
    let start = c.args in
    let l = level_of start.level in
    (omega arith, carried_first l (key_of l start.key) _ c.nothing.ensures, c.nothing.ensures)

pub loop-i-preserved : goal.loop-i-preserved
loop-i-preserved c =
    let start = c.args in
    let l = level_of start.level in
    let h = key_of l start.key in
    let s = bits 64 start.s in
    let turn = c.loop-i in
    let made = c.step-st.ensures in
    (omega arith, made.0, made.1 ∙ ap (step l h s turn.i) turn.invariant.2 ∙ sym (after_more (step l h s) turn.i))

pub returns : goal.returns
unfolding bgf
returns c =
    let start = c.args in
    let l = level_of start.level in
    let was = c.loop-i in
    let all : was.i ≡ 5 = omega arith in
    (was.invariant.1, was.invariant.2 ∙ ap (after (step l (key_of l start.key) (bits 64 start.s))) all)
