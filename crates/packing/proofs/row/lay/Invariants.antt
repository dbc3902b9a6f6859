-- `lay` writes byte by byte: before turn j the first j bytes are there.
use mathlib.Core.Path.{◌≡◌}
use mathlib.Core.List.{List, ◌++◌}
use Prim.Native.Nat.{ℕ, ◌+◌, ◌*◌, ◌≤◌}
use lib.ListN.{length, drop}
use Rattle.hashing.specs.Lists.{tab, bits}
use Rattle.ring.specs.Bytes.{number}
use Rattle.packing.specs.Packing.{in_row}
use Rattle.packing.proofs.row.lay.Given as goal

-- byte j of the row
abbrev pub byte : List ℕ → ℕ → ℕ → ℕ → ℕ → ℕ
byte bytes count from to j = number 8 (λ e. bits to (in_row from count bytes) (j * 8 + e))

abbrev pub invariant-loop-j : goal.invariant-loop-j
invariant-loop-j l =
    (l.j ≤ length l.initial.out) × (l.out ≡ tab l.j (byte l.bytes l.count l.from l.to) ++ drop l.j l.initial.out)
