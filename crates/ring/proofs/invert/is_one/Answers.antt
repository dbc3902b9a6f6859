-- `is_one` adds 1, and asks for zero.
use native.Mathlib.Omega.{arith}
use Rattle.hashing.specs.Lists.{bits}
use Rattle.ring.proofs.invert.Laws.{flip_first, one_tells}
use Rattle.ring.proofs.invert.is_one.Goals as goal

pub returns : goal.returns
returns c =
    let x = c.args.x in
    λ r. one_tells r (bits 64 x) c.is_zero.result (rw (flip_first r x (omega arith)) at c.is_zero.ensures)
