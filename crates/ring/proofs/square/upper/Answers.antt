-- `upper` takes the high 32 bits of both.
use mathlib.Core.Path.{◌∙◌}
use Rattle.hashing.proofs.Words.{bit_shr}
use Rattle.ring.proofs.square.upper.Goals as goal

pub returns : goal.returns
returns c = λ k below.
    let spread = c.alternate.ensures k below in
    (spread.0 ∙ bit_shr c.args.x 32 k, spread.1 ∙ bit_shr c.args.h 32 k)
