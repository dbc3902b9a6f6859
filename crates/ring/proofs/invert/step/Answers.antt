-- `step` multiplies what `squared` gives, which is in the ring.
use native.Mathlib.Omega.{arith}
use Prim.Native.Nat.{◌^◌}
use Rattle.hashing.specs.Lists.{bits}
use Rattle.ring.proofs.Powers.{spread_in}
use Rattle.ring.proofs.invert.step.Goals as goal

pub times-requires : goal.times-requires
times-requires c =
    let given = c.args in
    record {
      fact_1 = c.requires.fact_1;
      fact_2 = (rw c.squared.ensures (spread_in given.r (omega arith) (2 ^ given.k) (bits 64 given.x)), c.requires.fact_2);
      fact_3 = c.requires.fact_3;
    }
