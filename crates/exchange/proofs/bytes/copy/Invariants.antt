-- `copy` copies byte by byte: before turn i the first i bytes are there.
use mathlib.Core.Path.{◌≡◌}
use Prim.Native.Nat.{◌≤◌}
use lib.ListN.{length}
use Rattle.exchange.proofs.bytes.Laws.{Copied}
use Rattle.exchange.proofs.bytes.copy.Given as goal

abbrev pub invariant-loop-i : goal.invariant-loop-i
invariant-loop-i l = (l.i ≤ length l.from) × (length l.out ≡ length l.initial.out) × Copied l.from l.initial.out l.i l.out
