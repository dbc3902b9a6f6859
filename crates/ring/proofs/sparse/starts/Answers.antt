-- `starts`: before turn i the first i are written.
use native.Mathlib.Nat.{not-suc-le-zero}
use native.Mathlib.Omega.{arith}
use Rattle.ring.proofs.sparse.Laws.{starts_empty}
use Rattle.ring.proofs.sparse.starts.Goals as goal

pub loop-i-init : goal.loop-i-init
loop-i-init g c =
    (omega arith, (λ j below. absurd (not-suc-le-zero below)), λ j past. starts_empty c.filled-from.ensures j)
