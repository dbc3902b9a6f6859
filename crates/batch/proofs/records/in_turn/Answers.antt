-- `in_turn` reads record after record: what is still to come is judged as the whole is.
use mathlib.Core.Path.{sym, ◌∙◌}
use Prim.Native.Nat.{suc}
use native.Mathlib.Numerals.{add-one}
use lib.ListN.{drop}
use Rattle.std.proofs.lemmas.List.{drop_all}
use lib.Seq.{drop-cons}
use Rattle.batch.specs.Triples.{turns}
use Rattle.batch.proofs.Turns.{came}
use Rattle.batch.proofs.records.Laws.{next_whole, next_faulty}
use Rattle.batch.proofs.records.in_turn.Goals as goal

pub returns-in-Err : goal.returns-in-Err
returns-in-Err c =
    let given = c.args in
    let l = c.loop-thing in
    next_faulty _ _ given.level given.bytes.now l.at _ c.in-Err.ensures
    ∙ (rw (drop-cons given.things.now l.thing-index 0 c.loop-thing-test.true) at l.invariant.1)

pub loop-thing-preserved : goal.loop-thing-preserved
loop-thing-preserved c =
    let given = c.args in
    let l = c.loop-thing in
    let is = c.in-Ok.ensures in (
      (came _ given.level given.bytes.now l.at c.in-Ok.end l.invariant.0 (sym is)).within,
      rw (add-one l.thing-index) (next_whole _ (drop (suc l.thing-index) given.things.now) given.level given.bytes.now l.at c.in-Ok.end is)
          ∙ (rw (drop-cons given.things.now l.thing-index 0 c.loop-thing-test.true) at l.invariant.1),
    )

pub returns : goal.returns
unfolding turns
returns c =
    let l = c.loop-thing in
    let things = c.args.things.now in
    rw (drop_all l.thing-index things c.loop-thing-test.false, turns) at l.invariant.1
