-- `place` puts in the positions: before turn i the bits are those of the first i.
use mathlib.Core.Path.{◌≡◌}
use Prim.Native.Nat.{◌≤◌}
use lib.ListN.{length, take}
use Rattle.hashing.specs.Lists.{bits}
use Rattle.ring.specs.Polynomials.{listed}
use Rattle.exchange.proofs.error.place.Given as goal

abbrev pub invariant-loop-i : goal.invariant-loop-i
invariant-loop-i l = (l.i ≤ length l.list) × (length l.out ≡ length l.initial.out) × (bits 64 l.out ≡ (λ k. listed k (take l.i l.list)))
