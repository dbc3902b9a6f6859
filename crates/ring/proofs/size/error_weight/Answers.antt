-- `error_weight` reads its number off the level's row.
use mathlib.Core.Path.{ap}
use Rattle.ring.specs.Levels.{Level}
use Rattle.ring.specs.inner.Rows.{row}
use Rattle.ring.proofs.size.error_weight.Goals as goal

pub returns : goal.returns
unfolding row
returns c = ap (λ (l : Level). l.t) c.level_of.ensures
