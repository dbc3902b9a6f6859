-- `rotate_key` writes where its judge finds nothing.
use mathlib.Core.Path.{sym}
use Rattle.hashing.proofs.Answers.{done, refuses}
use Rattle.service.specs.Rotation.{rotate_key_says}
use Rattle.service.proofs.rotate_key.Goals as goal

pub returns-in-Err : goal.returns-in-Err
unfolding rotate_key_says
returns-in-Err c = rw c.zero.ensures (sym (refuses _ _ c.in-Err.refusal c.in-Err.ensures))

pub returns : goal.returns
unfolding rotate_key_says
returns c = rw (done _ _ (sym c.in_default.ensures), c.write.ensures)
