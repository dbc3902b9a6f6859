-- `masks`: k masks are made.
use mathlib.Core.Path.{◌∙◌}
use native.Mathlib.Omega.{arith}
use lib.ListN.{length-set}
use Rattle.ring.proofs.words.Laws.{filled}
use Rattle.exchange.specs.inner.Planes.{planes}
use Rattle.exchange.proofs.decoder.planes.Laws.{mask_digit}
use Rattle.exchange.proofs.decoder.planes.masks.Goals as goal
use Rattle.exchange.proofs.decoder.planes.masks.Invariants.{MaskOf}

pub loop-k-preserved : goal.loop-k-preserved
loop-k-preserved c =
    let l = c.loop-k in
    let b = c.args.bound in (
      omega arith,
      length-set l.clear l.k _ ∙ l.invariant.1,
      filled (MaskOf b) l.clear l.k _ (omega arith) l.invariant.2 (λ e h. mask_digit b l.k planes e h),
    )
