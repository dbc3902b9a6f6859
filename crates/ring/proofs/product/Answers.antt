-- `product` multiplies where its judge finds nothing.
use mathlib.Core.Path.{sym}
use native.Mathlib.Omega.{arith}
use Rattle.hashing.proofs.Answers.{done, refuses}
use Rattle.ring.specs.Bytes.{bytes_of}
use Rattle.ring.specs.Promises.{product_says}
use Rattle.ring.proofs.Judging.{judged}
use Rattle.ring.proofs.Levels.{r_odd}
use Rattle.ring.proofs.product.Goals as goal

pub returns-in-Err : goal.returns-in-Err
unfolding product_says
returns-in-Err c = rw c.zero.ensures (sym (refuses _ _ c.in-Err.refusal c.in-Err.ensures))

pub load-requires : goal.load-requires
load-requires c = let found = judged _ _ _ _ (sym c.in_default.ensures) in omega arith

pub load-requires-2 : goal.load-requires-2
load-requires-2 c = let found = judged _ _ _ _ (sym c.in_default.ensures) in omega arith

pub multiply-requires : goal.multiply-requires
multiply-requires c =
    let found = judged _ _ _ _ (sym c.in_default.ensures) in
    record {
      fact_1 = rw c.block-r.ensures (r_odd _, found.small);
      fact_2 = rw c.block-r.ensures (rw c.load.ensures (found.inside0 (λ i. (c.shared_slice_known-1.given i).fits)));
      fact_3 = rw c.block-r.ensures (rw c.load-2.ensures (found.inside1 (λ i. (c.shared_slice_known-2-1.given i).fits)));
    }

pub store-requires : goal.store-requires
store-requires c = let found = judged _ _ _ _ (sym c.in_default.ensures) in omega arith

pub returns : goal.returns
unfolding product_says bytes_of
returns c =
    let none = sym c.in_default.ensures in
    rw (
      done,
      c.store.ensures,
      c.multiply.ensures,
      c.load.ensures,
      c.load-2.ensures,
      c.block-r.ensures,
      (judged _ _ _ _ none).size,
    )
