-- `multiply::offsets` meets its contract: m offsets are in place. Assumes nothing.
use mathlib.Core.Path.{refl, ap, ◌∙◌}
use mathlib.Core.List.{List}
use Prim.Native.Nat.{ℕ}
use native.Mathlib.Omega.{arith}
use lib.ListN.{set, replicate, length-set}
use Rattle.hashing.proofs.Lists.{filled_none, filled_more}
use Rattle.ring.specs.inner.Wide.{start}
use Rattle.ring.proofs.multiply.offsets.Goals as goal

pub loop-m-preserved : goal.loop-m-preserved
loop-m-preserved c =
    let l = c.loop-m in
    let a = c.args in
    let f : ℕ → ℕ = start a.a.now a.w a.j in (
      omega arith,
      length-set l.o l.m (f l.m) ∙ l.invariant.1,
      ap (λ (o : List ℕ). set o l.m (f l.m)) l.invariant.2 ∙ filled_more l.m f (replicate 7 0) 0 (omega arith),
    )

pub loop-m-init : goal.loop-m-init
loop-m-init c = (omega arith, refl, filled_none (start c.args.a.now c.args.w c.args.j) (replicate 7 0))
