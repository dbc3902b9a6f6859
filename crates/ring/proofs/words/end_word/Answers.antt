-- `words::end_word` meets its contract: the bytes from m on are taken. Assumes nothing.
use mathlib.Core.Path.{◌≡◌, ap, ◌∙◌}
use Prim.Native.Nat.{◌+◌, ◌-◌, ◌*◌}
use native.Mathlib.Omega.{arith}
use Rattle.hashing.specs.Lists.{bits}
use Rattle.ring.proofs.words.Laws.{stacked}
use Rattle.ring.proofs.words.end_word.Goals as goal

pub loop-m-preserved : goal.loop-m-preserved
loop-m-preserved c =
    let l = c.loop-m in
    let a = c.args in
    λ e h.
    stacked a.b.now (a.at + (l.m - 1)) l.w c.byte.result e c.byte.ensures (omega arith) (omega arith)
    (λ high.
    let next : 8 * (a.at + l.m) + (e - 8) ≡ 8 * (a.at + (l.m - 1)) + e = omega arith in
    l.invariant (e - 8) (omega arith) ∙ ap (bits 8 a.b.now) next)
