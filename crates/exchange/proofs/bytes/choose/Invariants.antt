-- `choose` goes byte by byte: before turn i the first i bytes are there, of the one that the mask picks.
use mathlib.Core.Path.{◌≡◌}
use Prim.Native.Nat.{◌≤◌}
use lib.ListN.{length}
use Rattle.exchange.proofs.bytes.Laws.{Copied}
use Rattle.exchange.proofs.bytes.choose.Given as goal

abbrev pub invariant-loop-i : goal.invariant-loop-i
invariant-loop-i l =
    (l.i ≤ length l.initial.out) × (length l.out ≡ length l.initial.out) × (l.mask ≡ 255 → Copied l.a l.initial.out l.i l.out) × (l.mask ≡ 0 → Copied l.b l.initial.out l.i l.out)
