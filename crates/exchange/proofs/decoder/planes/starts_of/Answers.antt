-- `starts_of`: i rows are found.
use mathlib.Core.Path.{◌≡◌, refl, ◌∙◌}
use native.Mathlib.Nat.{not-suc-le-zero}
use native.Mathlib.Omega.{arith}
use lib.ListN.{get_or, length-set, get_or-replicate}
use lib.Seq.{get_or-set_other}
use Rattle.ring.proofs.words.Laws.{filled}
use Rattle.exchange.specs.inner.ByteRows.{empty_row, row_at}
use Rattle.exchange.specs.inner.Planes.{row_starts}
use Rattle.exchange.proofs.decoder.planes.starts_of.Goals as goal

pub loop-i-init : goal.loop-i-init
loop-i-init c = (
  omega arith,
  omega arith,
  (λ j h. absurd (not-suc-le-zero h)),
  λ j past room. get_or-replicate row_starts j empty_row 0 room,
)

pub loop-i-preserved : goal.loop-i-preserved
unfolding row_at
loop-i-preserved c =
    let l = c.loop-i in
    let positions = c.args.positions.now in (
      omega arith,
      length-set l.s l.i _ ∙ l.invariant.1,
      filled (λ j v. v ≡ row_at (get_or positions j 0)) l.s l.i _ (omega arith) l.invariant.2 refl,
      λ j past room. get_or-set_other l.s l.i j _ 0 (λ e. omega arith) ∙ l.invariant.3 j (omega arith) room,
    )
