-- `steps` goes on while the bytes at hand are enough, or all that come; each step brings the count nearer to its end.
use mathlib.Core.Path.{◌≡◌}
use mathlib.Core.Logic.{◌⊎◌}
use Prim.Native.Nat.{◌<◌}
use Rattle.batch.specs.Promises.{to_go}
use Rattle.batch.specs.inner.Steps.{Goes}
use Rattle.batch.proofs.steps.steps.Given as goal

abbrev pub invariant-loop-at : goal.invariant-loop-at
invariant-loop-at l =
    Goes l.initial.reached l.bytes l.ended (record { count = l.reached; used = l.at })
    × ((to_go l.reached < to_go l.initial.reached) ⊎ ((l.reached ≡ l.initial.reached) × (l.at ≡ 0)))

abbrev pub decreases-loop-at : goal.decreases-loop-at
decreases-loop-at l = to_go l.reached
