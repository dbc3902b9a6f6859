-- `power` climbs the chain: with n digits of u still to read, what is to come ends where the whole chain ends.
use mathlib.Core.Path.{◌≡◌}
use Prim.Native.Nat.{◌+◌, ◌*◌, ◌/◌, ◌^◌, ◌<◌}
use Rattle.hashing.specs.Lists.{bits}
use Rattle.ring.specs.Polynomials.{InRing}
use Rattle.ring.specs.inner.Ones.{Ones}
use Rattle.ring.specs.Chain.{climb, digits, top}
use Rattle.ring.proofs.invert.power.Given as goal

abbrev pub invariant-loop-n : goal.invariant-loop-n
invariant-loop-n l =
    InRing l.r (bits 64 l.x) × Ones l.r (bits 64 l.x) l.ones_x
    × (climb l.r (bits 64 l.a) (record { value = bits 64 l.x; span = l.u / 2 ^ l.n; products = l.count }) (digits l.n l.u)
    ≡ climb l.r (bits 64 l.a) (record { value = bits 64 l.a; span = 1; products = 0 }) (digits (top l.u) l.u))
    × (l.count + 2 * l.n < 128)
