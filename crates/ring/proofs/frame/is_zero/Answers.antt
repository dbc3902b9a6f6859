-- `is_zero` joins all words: after so many words the rest is 0 exactly if they are.
use native.Mathlib.Omega.{arith}
use borrow.Author.Count.{below_more}
use borrow.Author.Tests.{eqb-true, eqb-false}
use lib.ListN.{get_or}
use Rattle.ring.proofs.Packed.{bits_none, none-bits}
use Rattle.ring.proofs.frame.Laws.{or_none}
use Rattle.ring.proofs.frame.is_zero.Goals as goal

pub loop-word-preserved : goal.loop-word-preserved
loop-word-preserved c =
    let was = c.loop-word in
    let x = c.args.x.now in
    let word = c.row_known-1.given in (
      omega arith,
      λ e. let parts = or_none was.rest (get_or x was.word-index 0) e in below_more _ _ (was.invariant.1 parts.0) parts.1,
      λ none. rw (was.invariant.2 none, none-bits x was.word-index (omega arith) none),
    )

pub returns : goal.returns
returns c =
    let was = c.loop-word in
    let x = c.args.x.now in
    record {
      holds = λ e. bits_none x (λ j below. was.invariant.1 (eqb-true was.rest 0 e) j (omega arith));
      fails = λ e none. eqb-false was.rest 0 e (was.invariant.2 none);
    }
