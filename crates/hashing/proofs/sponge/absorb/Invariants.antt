-- `absorb` goes on with the running hash: before a turn it is that of the message with the first i bytes.
use mathlib.Core.Path.{◌≡◌}
use mathlib.Core.List.{List, ◌++◌}
use Prim.Native.Nat.{ℕ, ◌-◌, ◌≤◌, ◌<◌}
use lib.ListN.{length, take}
use Rattle.hashing.specs.inner.Running.{running}
use Rattle.hashing.proofs.sponge.Absorbing.{held}
use Rattle.hashing.proofs.sponge.absorb.Given as goal

abbrev pub invariant-loop-i : goal.invariant-loop-i
invariant-loop-i l =
    (l.i ≤ length l.bytes)
    × (l.place < l.rate)
    × ((M : List ℕ) → held l.initial.lanes l.initial.place ≡ running l.rate M → held l.lanes l.place ≡ running l.rate (M ++ take l.i l.bytes))

abbrev pub decreases-loop-i : goal.decreases-loop-i
decreases-loop-i l = length l.bytes - l.i
