-- `reached`: the lower k planes are compared.
use mathlib.Core.Path.{◌≡◌, sym}
use native.Mathlib.Omega.{arith}
use lib.Bits.{bit_and, bit_xor}
use lib.ListN.{get_or}
use Rattle.hashing.specs.Lists.{bit_at}
use Rattle.hashing.proofs.Words.{bit-and, bit-or, bit-xor}
use Rattle.exchange.specs.inner.Planes.{planes, reaches, reaches_at}
use Rattle.exchange.proofs.decoder.planes.Laws.{bit_at-ones, reaches_more}
use Rattle.exchange.proofs.decoder.planes.reached.Goals as goal

pub loop-k-init : goal.loop-k-init
unfolding reaches
loop-k-init c = (omega arith, bit_at-ones)

pub loop-k-preserved : goal.loop-k-preserved
loop-k-preserved c =
    let l = c.loop-k in
    let given = c.args in
    let g = l.g in
    let x = get_or given.q l.k 0 in
    let y = get_or given.clear l.k 0 in (
      omega arith,
      λ e h.
          rw (bit-or (bit_and g x) (bit_and (bit_xor g x) y) e, bit-and g x e, bit-and (bit_xor g x) y e, bit-xor g x e, l.invariant.1 e h)
          (sym (reaches_more l.k (λ i. bit_at (get_or given.clear i 0) e) (λ i. bit_at (get_or given.q i 0) e))),
    )

pub returns : goal.returns
unfolding reaches_at
returns c = λ e h.
    let all : c.loop-k.k ≡ planes = omega arith in rw (← all) (c.loop-k.invariant.1 e h)
