-- `bound_addends` takes the error of f(m, h).
use native.Mathlib.Omega.{arith}
use Rattle.ring.proofs.Levels.{sizes}
use Rattle.exchange.proofs.wrapping.bound_addends.Goals as goal

pub load-requires : goal.load-requires
load-requires c =
    omega (arith, c.requires.fact_1, sizes c.args.level)
