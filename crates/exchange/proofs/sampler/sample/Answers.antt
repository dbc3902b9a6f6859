-- `sample` goes down the steps: before each turn the list so far, and the steps left, make the sample; so with the count.
use mathlib.Core.Path.{◌≡◌, refl, sym, ap, ◌∙◌}
use Prim.Native.Nat.{◌+◌, ◌-◌, ◌≤◌, ◌<◌}
use native.Mathlib.Nat.{zero-add, add-zero, add_assoc}
use native.Mathlib.Omega.{arith}
use lib.ListN.{length, length-set}
use lib.Seq.{take_all}
use Rattle.ring.specs.Bytes.{numbers}
use Rattle.exchange.specs.Sampler.{sample_below, sample, replaced_below, replaced}
use Rattle.ring.proofs.little_endian.Laws.{numbers_at}
use Rattle.exchange.proofs.sampler.Laws.{sample-turn, replaced-turn}
use Rattle.exchange.proofs.sampler.sample.Goals as goal

pub loop-done-init : goal.loop-done-init
unfolding sample replaced
loop-done-init c =
    let all : length c.args.list.now - 0 ≡ length c.args.list.now = omega arith in
    (omega arith, refl, rw all, rw (all, zero-add), omega arith)

pub loop-done-preserved : goal.loop-done-preserved
loop-done-preserved c =
    let was = c.loop-done in
    let given = c.args in
    let wt = length given.list.now in
    let words = numbers 4 wt given.stream.now in
    let i = length was.list - 1 - was.done in
    let room : was.done < length was.list = omega arith in
    let next : wt - (was.done + 1) ≡ i = omega arith in
    let this : i + 1 ≡ wt - was.done = omega arith in
    let word = c.four.ensures ∙ sym (numbers_at 4 wt given.stream.now i (omega arith)) in
    let pos = rw word at c.candidate-pos.ensures in
    let choice = c.chosen-choice.result in
    let is = rw pos at c.chosen-choice.ensures in (
      omega arith,
      simp length-set was.invariant.1,
      rw next
          (sample-turn given.len words i was.done was.list choice.position room is.0
          ∙ rw this was.invariant.2),
      rw next
          (add_assoc was.count choice.replaced _
          ∙ ap (◌+◌ was.count) (replaced-turn given.len words i was.done was.list choice.position choice.replaced room is.0 is.1)
          ∙ rw this was.invariant.3),
      omega (arith, c.chosen-choice.ensures.2),
    )

pub returns : goal.returns
unfolding sample_below replaced_below
returns c =
    let was = c.loop-done in
    let none : length c.args.list.now - was.done ≡ 0 = omega arith in
    let all : length was.list ≤ was.done = omega arith in
    (rw (none, take_all _ was.list all) at was.invariant.2, rw (none, add-zero) at was.invariant.3)
