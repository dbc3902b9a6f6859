-- `eight`: the words of m rows are read.
use mathlib.Core.Path.{ap}
use Prim.Native.Nat.{◌+◌, ◌*◌}
use native.Mathlib.Omega.{arith}
use lib.ListN.{get_or}
use Rattle.hashing.specs.Lists.{bit_at}
use Rattle.ring.specs.Polynomials.{bit}
use Rattle.exchange.specs.inner.Planes.{ones_at, in_row}
use Rattle.exchange.proofs.decoder.Totals.{total_ext}
use Rattle.exchange.proofs.decoder.planes.eight.Goals as goal

pub returns : goal.returns
unfolding ones_at in_row
returns c = λ e h.
    let l = c.loop-m in
    let given = c.args in
    total_ext 8 (λ m. bit (bit_at (get_or l.x m 0) e)) (λ m. in_row given.f.now given.starts.now (64 * given.i + e) (given.k + m))
    (λ m small. ap bit (l.invariant.2 m (omega arith) e h))
