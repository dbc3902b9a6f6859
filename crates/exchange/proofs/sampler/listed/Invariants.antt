-- `listed` looks the list through: before turn k it has looked at the first k positions.
use mathlib.Core.Path.{◌≡◌}
use Prim.Native.Nat.{◌≤◌}
use lib.ListN.{length, take}
use Rattle.ring.specs.Polynomials.{listed}
use Rattle.exchange.proofs.sampler.listed.Given as goal

abbrev pub invariant-loop-k : goal.invariant-loop-k
invariant-loop-k l = (l.k ≤ length l.list) × (l.found ≡ listed l.pos (take l.k l.list))
