-- `xor` goes byte by byte: before turn i the first i bytes are there.
use mathlib.Core.Path.{◌≡◌}
use mathlib.Core.List.{◌++◌}
use Prim.Native.Nat.{ℕ, ◌≤◌}
use lib.Bits.{bit_xor}
use lib.ListN.{length, get_or, drop}
use Rattle.hashing.specs.Lists.{tab}
use Rattle.exchange.proofs.bytes.xor.Given as goal

abbrev pub invariant-loop-i : goal.invariant-loop-i
invariant-loop-i l =
    (l.i ≤ length l.initial.out) × (length l.out ≡ length l.initial.out) × (l.out ≡ tab l.i (λ (k : ℕ). bit_xor (get_or l.a k 0) (get_or l.b k 0)) ++ drop l.i l.initial.out)
