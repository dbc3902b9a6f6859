-- `reached`: the lower k planes are compared.
use mathlib.Core.Path.{◌≡◌}
use Prim.Native.Nat.{ℕ, ◌≤◌, ◌<◌}
use lib.ListN.{get_or}
use Rattle.hashing.specs.Lists.{bit_at}
use Rattle.exchange.specs.inner.Planes.{planes, reaches}
use Rattle.exchange.proofs.decoder.planes.reached.Given as goal

abbrev pub invariant-loop-k : goal.invariant-loop-k
invariant-loop-k l =
    (l.k ≤ planes) × ((e : ℕ) → e < 64 → bit_at l.g e ≡ reaches l.k (λ i. bit_at (get_or l.clear i 0) e) (λ i. bit_at (get_or l.q i 0) e))
