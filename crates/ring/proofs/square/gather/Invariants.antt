-- `gather` takes in a bit a turn, the highest first.
use Prim.Native.Nat.{◌+◌, ◌%◌}
use lib.ListN.{get_or}
use Rattle.ring.specs.inner.Held.{Held, Taken}
use Rattle.ring.specs.Polynomials.{Poly}
use Rattle.ring.proofs.square.gather.Given as goal

abbrev pub invariant-loop-e : goal.invariant-loop-e
invariant-loop-e l = (a : Poly) → Held l.r a l.d → Taken (λ e. a ((l.base + get_or l.o e 0) % l.r)) l.e l.w
