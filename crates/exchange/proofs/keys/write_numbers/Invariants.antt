-- `write_numbers` writes its list in order: before turn i the bytes of the first i numbers are there.
use mathlib.Core.Path.{◌≡◌}
use mathlib.Core.List.{◌++◌}
use Prim.Native.Nat.{◌*◌, ◌≤◌}
use lib.ListN.{length, take, drop}
use Rattle.exchange.specs.Scheme.{two_bytes}
use Rattle.exchange.proofs.keys.write_numbers.Given as goal

abbrev pub invariant-loop-i : goal.invariant-loop-i
invariant-loop-i l =
    (l.i ≤ length l.list) × (length l.out ≡ length l.initial.out) × (l.out ≡ two_bytes (take l.i l.list) ++ drop (2 * l.i) l.initial.out)
