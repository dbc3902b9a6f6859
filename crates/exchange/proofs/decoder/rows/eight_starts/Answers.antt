-- `eight_starts`: m starts are found.
use mathlib.Core.Path.{ap, ◌∙◌}
use mathlib.Core.List.{List}
use Prim.Native.Nat.{ℕ, ◌+◌}
use native.Mathlib.Omega.{arith}
use lib.ListN.{set, replicate}
use Rattle.hashing.proofs.Lists.{filled_none, filled_more}
use Rattle.exchange.specs.inner.ByteRows.{turned_row}
use Rattle.exchange.proofs.decoder.rows.eight_starts.Goals as goal

pub loop-m-init : goal.loop-m-init
loop-m-init c = (omega arith, filled_none (λ m. turned_row c.args.r c.args.positions.now c.args.d (c.args.i + m)) (replicate 8 0))

pub loop-m-preserved : goal.loop-m-preserved
loop-m-preserved c =
    let l = c.loop-m in
    let rows : ℕ → ℕ = λ m. turned_row c.args.r c.args.positions.now c.args.d (c.args.i + m) in (
      omega arith,
      ap (λ (a : List ℕ). set a l.m c.start.result) l.invariant.1 ∙ rw c.start.ensures (filled_more l.m rows (replicate 8 0) 0 (omega arith)),
    )
