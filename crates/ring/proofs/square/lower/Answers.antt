-- `lower` takes the low 32 bits of both.
use mathlib.Core.Path.{◌∙◌}
use Rattle.hashing.proofs.Words.{bit-mod}
use Rattle.ring.proofs.square.lower.Goals as goal

pub returns : goal.returns
returns c = λ k below.
    let spread = c.alternate.ensures k below in
    (spread.0 ∙ bit-mod c.args.x 32 k below, spread.1 ∙ bit-mod c.args.h 32 k below)
