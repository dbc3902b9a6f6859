-- The depth falls from `karatsuba` to the two others, and from them to the next `karatsuba`.
use Prim.Native.Nat.{◌+◌, ◌*◌}
use Rattle.ring.proofs.multiply.+karatsuba_middle_outer.Given as goal

abbrev pub decreases-karatsuba : goal.decreases-karatsuba
decreases-karatsuba l = 2 * l.depth

abbrev pub decreases-middle : goal.decreases-middle
decreases-middle l = 2 * l.depth + 1

abbrev pub decreases-outer : goal.decreases-outer
decreases-outer l = 2 * l.depth + 1
