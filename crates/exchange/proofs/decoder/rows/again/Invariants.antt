-- `again`: before turn j all words below j are laid.
use mathlib.Core.Path.{◌≡◌}
use mathlib.Core.List.{◌++◌}
use Prim.Native.Nat.{◌+◌, ◌*◌, ◌/◌, ◌≤◌}
use lib.ListN.{drop}
use Rattle.hashing.specs.Lists.{bits}
use Rattle.ring.specs.Bytes.{list_of}
use Rattle.exchange.specs.inner.ByteRows.{twice}
use Rattle.exchange.proofs.decoder.rows.again.Given as goal

abbrev pub invariant-loop-j : goal.invariant-loop-j
invariant-loop-j l =
    (l.r / 64 + 1 ≤ l.j) × (l.j ≤ (2 * l.r + 63) / 64) × (l.f ≡ list_of 8 (8 * l.j) (twice l.r (bits 64 l.x)) ++ drop (8 * l.j) l.initial.f)
