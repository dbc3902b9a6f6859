-- `repeated` squares k times: before turn j the first square's exponents are multiplied by 2^(j - 1).
use mathlib.Core.Path.{◌≡◌}
use Prim.Native.Nat.{◌-◌, ◌^◌, ◌≤◌, ◌<◌}
use Rattle.hashing.specs.Lists.{bits}
use Rattle.ring.specs.Polynomials.{spread}
use Rattle.ring.proofs.square.repeated.Given as goal

abbrev pub invariant-loop-j : goal.invariant-loop-j
invariant-loop-j l = (0 < l.j) × (l.j ≤ l.k) × (bits 64 l.y ≡ spread l.r (2 ^ (l.j - 1)) (bits 64 l.initial.y))
