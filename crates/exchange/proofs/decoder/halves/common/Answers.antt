-- `common`: i words are done.
use mathlib.Core.Path.{◌≡◌, refl, sym, ap₂, ◌∙◌}
use mathlib.Core.Bool.{◌&&◌, and-false}
use native.Mathlib.Omega.{arith}
use lib.Bits.{bit_and}
use lib.ListN.{get_or}
use Rattle.hashing.specs.Lists.{bits}
use Rattle.hashing.proofs.Words.{bit-and, bits_at}
use Rattle.ring.proofs.words.Laws.{done_none, done_more, done_all}
use Rattle.exchange.proofs.decoder.halves.common.Goals as goal

pub loop-i-preserved : goal.loop-i-preserved
loop-i-preserved c =
    let l = c.loop-i in
    let a = c.args in (
      omega arith,
      done_more (λ j. bits 64 a.a j && bits 64 a.b j) l.i (bit_and (get_or a.a l.i 0) (get_or a.b l.i 0)) l.c (omega arith)
          l.invariant.1
          (λ e h.
          bit-and (get_or a.a l.i 0) (get_or a.b l.i 0) e
          ∙ sym (ap₂ ◌&&◌ (bits_at 64 a.a l.i e refl h) (bits_at 64 a.b l.i e refl h))),
    )

pub returns : goal.returns
returns c =
    let a = c.args in
    let pre = c.requires in
    let all : c.loop-i.i ≡ a.n = omega arith in
    done_all (λ j. bits 64 a.a j && bits 64 a.b j) a.n c.loop-i.c (rw (← all) c.loop-i.invariant.1)
    (λ k h. rw (pre.1 k h) (and-false (bits 64 a.a k)))

pub loop-i-init : goal.loop-i-init
loop-i-init c = (omega arith, done_none (λ j. bits 64 c.args.a j && bits 64 c.args.b j) c.filled-c.result c.filled-c.ensures)
