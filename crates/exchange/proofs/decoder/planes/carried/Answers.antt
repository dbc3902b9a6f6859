-- `carried`: the carry, in front of plane k, and the planes are what they were with it.
use mathlib.Core.Path.{ap, ◌∙◌}
use mathlib.Core.Bool.{Bool}
use Prim.Native.Nat.{◌+◌, ◌*◌, ◌^◌}
use native.Mathlib.Omega.{arith}
use lib.Bits.{bit_xor}
use lib.ListN.{get_or, length-set}
use Rattle.hashing.specs.Lists.{bit_at}
use Rattle.hashing.proofs.Words.{bit-and, bit-xor}
use Rattle.ring.specs.Polynomials.{bit}
use Rattle.exchange.specs.inner.Planes.{number_at}
use Rattle.exchange.proofs.decoder.planes.Laws.{number-set, carry_on}
use Rattle.exchange.proofs.decoder.planes.carried.Goals as goal

pub loop-k-preserved : goal.loop-k-preserved
loop-k-preserved c =
    let l = c.loop-k in
    let x = get_or l.q l.k 0 in (
      omega arith,
      length-set l.q l.k _ ∙ l.invariant.1,
      λ e.
          rw (bit-and x l.c e)
          (carry_on (bit_at x e) (bit_at l.c e) l.k (number_at l.q e) _
          (number-set l.q l.k (bit_xor x l.c) e (omega arith) (omega arith)
          ∙ ap (λ (b : Bool). number_at l.q e + bit b * 2 ^ l.k) (bit-xor x l.c e)))
          ∙ l.invariant.2 e,
    )
