-- `sparse_upper`: each window is a term more, or none.
use mathlib.Core.Path.{refl}
use Prim.Native.Nat.{ℕ, ◌<◌}
use native.Mathlib.Omega.{arith}
use lib.ListN.{get_or, take}
use Rattle.std.proofs.Common.{rules}
use Rattle.hashing.specs.Lists.{bits}
use Rattle.ring.specs.inner.Upper.{upper}
use Rattle.ring.specs.inner.Windows.{UpperStart}
use Rattle.ring.proofs.sparse.Laws.{upper_more, windows_product, upper_is_start}
use Rattle.ring.proofs.sparse.sparse_upper.Goals as goal
use Rattle.ring.proofs.sparse.sparse_upper.Goals.{After-starts-from}

-- what the rule says of each start
told : (c : After-starts-from) → (i : ℕ) → i < c.args.count → UpperStart c.args.r (get_or c.args.positions.now i 0) (get_or c.starts-from.result i 0)
told c i more = let h = c.starts-from.ensures.fact_1 i more in search rules

pub windows-requires : goal.windows-requires
windows-requires c =
    let made = told (goal.at.windows-requires c).After-starts-from in
    record {
      fact_1 = omega arith;
      fact_2 = c.requires.fact_2;
      fact_3 = ((λ i more. upper_is_start c.args.r _ _ (made i more)), c.starts-from.ensures.fact_2);
    }

pub returns : goal.returns
unfolding upper
returns c =
    let made = told (goal.at.returns c).After-starts-from in
    let from = c.starts-from.result in
    let ps = c.args.positions.now in
    let x = bits 64 c.args.x in
    windows_product c.args.r (omega arith) x c.args.count (λ i. get_or from i 0) (λ i. upper c.args.r (take i ps)) refl
    (λ k i below more.
    upper_more c.args.r (omega arith) ps i (get_or from i 0) x k (omega arith) (omega arith) (c.requires.fact_3 i more) below (made i more))
    c.windows.ensures.fact_1
    c.windows.ensures.fact_2
