-- `eight`: the bytes of m rows are added.
use mathlib.Core.Path.{ap, ◌∙◌}
use mathlib.Core.Bool.{Bool}
use Prim.Native.Nat.{◌+◌}
use native.Mathlib.Numerals.{add-one}
use native.Mathlib.Omega.{arith}
use lib.ListN.{get_or}
use Rattle.hashing.specs.Lists.{bit_at}
use Rattle.hashing.proofs.Words.{bit_zero}
use Rattle.ring.specs.Polynomials.{flip, parity}
use Rattle.ring.proofs.Packed.{bit-flip}
use Rattle.exchange.proofs.decoder.rows.eight.Goals as goal

pub loop-m-init : goal.loop-m-init
unfolding parity
loop-m-init c = (omega arith, λ e. bit_zero e)

pub loop-m-preserved : goal.loop-m-preserved
unfolding parity
loop-m-preserved c =
    let l = c.loop-m in
    let f = c.args.f.now in (
      omega arith,
      λ e. rw (add-one l.m) (bit-flip l.sum (get_or f (get_or c.args.at l.m 0 + c.args.i) 0) e ∙ ap (λ (b : Bool). flip b (bit_at (get_or f (get_or c.args.at l.m 0 + c.args.i) 0) e)) (l.invariant.1 e)),
    )
