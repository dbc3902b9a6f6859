-- `next_eight`: m starts are in place.
use mathlib.Core.Path.{refl, ap, ◌∙◌}
use mathlib.Core.List.{List}
use Prim.Native.Nat.{ℕ}
use native.Mathlib.Omega.{arith}
use lib.ListN.{set, replicate, length-set}
use Rattle.hashing.proofs.Lists.{filled_none, filled_more}
use Rattle.ring.proofs.sparse.next_eight.Goals as goal
use Rattle.ring.proofs.sparse.next_eight.Invariants.{starts}

pub loop-m-preserved : goal.loop-m-preserved
loop-m-preserved c =
    let l = c.loop-m in
    let given = c.args in
    let v = starts given.from.now given.j l.m in (
      omega arith,
      length-set l.o l.m v ∙ l.invariant.1,
      ap (λ (o : List ℕ). set o l.m v) l.invariant.2 ∙ filled_more l.m (starts given.from.now given.j) (replicate 8 0) 0 (omega arith),
    )

pub loop-m-init : goal.loop-m-init
loop-m-init c = (omega arith, refl, filled_none (starts c.args.from.now c.args.j) (replicate 8 0))
