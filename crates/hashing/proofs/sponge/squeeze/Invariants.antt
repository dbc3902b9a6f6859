-- `squeeze` fills its buffer: before turn i it has the first i bytes that follow, and the hash has drawn them.
use mathlib.Core.Path.{◌≡◌}
use mathlib.Core.List.{List, ◌++◌}
use Prim.Native.Nat.{ℕ, ◌+◌, ◌-◌, ◌≤◌}
use lib.ListN.{length, drop}
use Rattle.hashing.specs.Lists.{tab}
use Rattle.hashing.specs.inner.Running.{drawn}
use Rattle.hashing.proofs.sponge.Absorbing.{held}
use Rattle.hashing.proofs.sponge.Squeezing.{following}
use Rattle.hashing.proofs.sponge.squeeze.Given as goal

abbrev pub invariant-loop-i : goal.invariant-loop-i
invariant-loop-i l =
    (l.i ≤ length l.out)
    × (length l.out ≡ length l.initial.out)
    × (l.place ≤ l.rate)
    × ((suffix : ℕ) (M : List ℕ) (n : ℕ) → held l.initial.lanes l.initial.place ≡ drawn l.rate suffix M n
    → (l.out ≡ tab l.i (following l.rate suffix M n) ++ drop l.i l.initial.out)
    × (held l.lanes l.place ≡ drawn l.rate suffix M (n + l.i)))

abbrev pub decreases-loop-i : goal.decreases-loop-i
decreases-loop-i l = length l.out - l.i
