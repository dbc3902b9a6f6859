-- `is_good`: both halves have room for the level's positions.
use native.Mathlib.Omega.{arith}
use Rattle.ring.proofs.Levels.{sizes}
use Rattle.exchange.proofs.decoder.private_key.is_good.Goals as goal

pub shared_ref_as_front-rises : goal.shared_ref_as_front-rises
shared_ref_as_front-rises c = omega (arith, c.key_weight-d.ensures, sizes c.args.level)
