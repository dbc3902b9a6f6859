-- `words::sum` meets its contract: i words are done. Assumes nothing.
use mathlib.Core.Path.{◌≡◌, refl, sym, ap₂, ◌∙◌}
use native.Mathlib.Omega.{arith}
use lib.Bits.{bit_xor}
use lib.ListN.{get_or}
use Rattle.ring.proofs.Packed.{bit-flip}
use Rattle.hashing.specs.Lists.{bits}
use Rattle.hashing.proofs.Words.{bits_at}
use Rattle.ring.specs.Polynomials.{flip, add}
use Rattle.ring.proofs.words.Laws.{done_none, done_more, done_all}
use Rattle.ring.proofs.words.sum.Goals as goal

pub loop-i-preserved : goal.loop-i-preserved
unfolding add
loop-i-preserved c =
    let l = c.loop-i in
    let a = c.args in (
      omega arith,
      done_more (add (bits 64 a.a) (bits 64 a.b)) l.i (bit_xor (get_or a.a l.i 0) (get_or a.b l.i 0)) l.c (omega arith)
          l.invariant.1
          (λ e h.
          bit-flip (get_or a.a l.i 0) (get_or a.b l.i 0) e
          ∙ sym (ap₂ flip (bits_at 64 a.a l.i e refl h) (bits_at 64 a.b l.i e refl h))),
    )

pub returns : goal.returns
unfolding add
returns c =
    let a = c.args in
    let pre = c.requires in
    let all : c.loop-i.i ≡ a.n = omega arith in
    done_all (add (bits 64 a.a) (bits 64 a.b)) a.n c.loop-i.c (rw (← all) c.loop-i.invariant.1)
    (λ k h. ap₂ flip (pre.1 k h) (pre.2 k h))

pub loop-i-init : goal.loop-i-init
loop-i-init c = (omega arith, done_none (add (bits 64 c.args.a) (bits 64 c.args.b)) c.filled-c.result c.filled-c.ensures)
