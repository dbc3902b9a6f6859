-- `gather` takes in a bit a turn, the highest first.
use mathlib.Core.Path.{◌≡◌}
use Prim.Native.Nat.{◌+◌, ◌%◌}
use native.Mathlib.Nat.{zero-add}
use native.Mathlib.Omega.{arith}
use lib.ListN.{get_or}
use Rattle.ring.proofs.square.Laws.{taken-same}
use Rattle.ring.proofs.square.gather.Goals as goal

pub loop-e-preserved : goal.loop-e-preserved
loop-e-preserved c =
    let was = c.loop-e in
    let given = c.args in
    λ a held. c.taken-w.ensures a held (taken-same (λ e. a ((given.base + get_or given.o.now e 0) % given.r)) was.w (omega arith) (was.invariant a held))

pub returns : goal.returns
returns c =
    let was = c.loop-e in
    let none : was.e ≡ 0 = omega arith in
    λ a held e below. rw (none, zero-add e) at (was.invariant a held e (omega arith))
