-- `position_bits` counts the places up to the highest digit.
use native.Mathlib.Omega.{arith}
use Rattle.ring.proofs.Levels.{r_pos}
use Rattle.ring.proofs.size.position_bits.Goals as goal

pub top-requires : goal.top-requires
top-requires c = omega (arith, r_pos c.args.level)
