-- `write_map` writes where its judge finds nothing.
use mathlib.Core.Path.{sym}
use Rattle.hashing.proofs.Answers.{done, refuses}
use Rattle.maps.specs.Promises.{write_map_says}
use Rattle.maps.proofs.write_map.Goals as goal

pub returns-in-Err : goal.returns-in-Err
unfolding write_map_says
returns-in-Err c = rw c.zero.ensures (sym (refuses _ _ c.in-Err.refusal c.in-Err.ensures))

pub returns : goal.returns
unfolding write_map_says
returns c = rw (done _ _ (sym c.in_default.ensures), c.write.ensures)
