-- `taken`: the byte is a bit, so that the sum loses nothing.
use Prim.Native.Nat.{◌+◌, ◌%◌}
use native.Mathlib.Omega.{arith}
use lib.ListN.{get_or}
use Rattle.ring.proofs.square.Laws.{taken_in}
use Rattle.ring.proofs.square.taken.Goals as goal

pub returns : goal.returns
returns c =
    let near = c.requires.fact_2.1 c.args.e (omega arith) in
    λ a held. taken_in (λ e. a ((c.args.base + get_or c.args.o.now e 0) % c.args.r)) c.args.w c.args.e (omega arith)
    (held (c.args.base + get_or c.args.o.now c.args.e 0) (omega arith))
