-- `words::store` meets its contract: after the whole words i bytes are written. Assumes nothing.
use mathlib.Core.Path.{◌≡◌}
use mathlib.Core.List.{◌++◌}
use Prim.Native.Nat.{◌+◌, ◌*◌, ◌≤◌}
use lib.ListN.{length, drop}
use Rattle.hashing.specs.Lists.{tab, bits}
use Rattle.ring.specs.Bytes.{number}
use Rattle.ring.proofs.words.store.Given as goal

abbrev pub invariant-loop-i : goal.invariant-loop-i
invariant-loop-i l =
    (l.i ≤ length l.initial.out) × (length l.out ≡ length l.initial.out) × (l.out ≡ tab l.i (λ i. number 8 (λ e. bits 64 l.a (i * 8 + e))) ++ drop l.i l.initial.out)
