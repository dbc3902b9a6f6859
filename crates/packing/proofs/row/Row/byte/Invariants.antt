-- `byte`: before turn k the first k bits are added.
use mathlib.Core.Path.{◌≡◌}
use Prim.Native.Nat.{◌+◌, ◌*◌, ◌≤◌}
use Rattle.hashing.specs.Lists.{bits}
use Rattle.ring.specs.Bytes.{number}
use Rattle.packing.specs.Packing.{in_row}
use Rattle.packing.proofs.row.Row.byte.Given as goal

abbrev pub invariant-loop-k : goal.invariant-loop-k
invariant-loop-k l =
    let row = l.self in
    (l.k ≤ 8) × (l.byte ≡ number l.k (λ e. bits row.to (in_row row.from row.count row.bytes.now) (l.j * 8 + e)))
