-- `same` looks both through: before turn i it has compared the first i bytes.
use mathlib.Core.Path.{◌≡◌}
use Prim.Native.Nat.{◌≤◌}
use lib.ListN.{length, take}
use Rattle.ring.specs.Polynomials.{Tells}
use Rattle.exchange.proofs.bytes.same.Given as goal

abbrev pub invariant-loop-i : goal.invariant-loop-i
invariant-loop-i l = (l.i ≤ length l.a) × Tells l.equal (take l.i l.a ≡ take l.i l.b)
