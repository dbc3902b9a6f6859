-- `top` counts the zeros above the highest digit.
use native.Mathlib.Omega.{arith}
use Rattle.ring.proofs.invert.Laws.{top_leading}
use Rattle.ring.proofs.invert.top.Goals as goal

pub returns : goal.returns
returns c = (omega arith, top_leading c.args.u c.requires (omega arith))
