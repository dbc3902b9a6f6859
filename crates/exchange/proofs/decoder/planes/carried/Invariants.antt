-- `carried`: the carry, in front of plane k, and the planes are what they were with it.
use mathlib.Core.Path.{◌≡◌}
use Prim.Native.Nat.{ℕ, ◌+◌, ◌*◌, ◌^◌, ◌≤◌}
use lib.ListN.{length}
use Rattle.hashing.specs.Lists.{bit_at}
use Rattle.ring.specs.Polynomials.{bit}
use Rattle.exchange.specs.inner.Planes.{planes, number_at}
use Rattle.exchange.proofs.decoder.planes.carried.Given as goal

abbrev pub invariant-loop-k : goal.invariant-loop-k
invariant-loop-k l =
    (l.k ≤ planes) × (length l.q ≡ planes)
    × ((e : ℕ) → number_at l.q e + bit (bit_at l.c e) * 2 ^ l.k ≡ number_at l.initial.q e + bit (bit_at l.carry e) * 2 ^ l.from)
