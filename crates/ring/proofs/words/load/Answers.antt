-- `words::load` meets its contract: i words are done. Assumes nothing.
use mathlib.Core.Path.{◌≡◌, ap, ◌∙◌}
use Prim.Native.Nat.{◌+◌, ◌*◌, ◌/◌}
use native.Mathlib.Omega.{arith}
use lib.Dec.{lit<}
use lib.ListN.{length}
use Rattle.hashing.specs.Lists.{bits}
use Rattle.hashing.proofs.Words.{bits_out}
use Rattle.ring.proofs.words.Laws.{done_none, done_more, done_all}
use Rattle.ring.proofs.words.load.Goals as goal

pub loop-i-preserved : goal.loop-i-preserved
loop-i-preserved c =
    let l = c.loop-i in
    let b = c.args.bytes.now in (
      omega arith,
      done_more (bits 8 b) l.i c.word_of.result l.a (omega arith) l.invariant.1
          (λ e h. let same : 8 * (8 * l.i) + e ≡ 64 * l.i + e = omega arith in c.word_of.ensures e h ∙ ap (bits 8 b) same),
    )

pub returns : goal.returns
returns c =
    let b = c.args.bytes.now in
    let all : c.loop-i.i ≡ (length b + 7) / 8 = omega arith in
    done_all (bits 8 b) ((length b + 7) / 8) c.loop-i.a (rw (← all) c.loop-i.invariant.1)
    (λ k h. bits_out 8 b k (lit< tt) (omega arith))

pub loop-i-init : goal.loop-i-init
loop-i-init c = (omega arith, done_none (bits 8 c.args.bytes.now) c.filled-a.result c.filled-a.ensures)
