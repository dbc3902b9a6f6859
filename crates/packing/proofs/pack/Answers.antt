-- `pack` packs where its judge finds nothing.
use mathlib.Core.Path.{sym}
use Rattle.hashing.proofs.Answers.{done, refuses}
use Rattle.packing.specs.Promises.{pack_says}
use Rattle.packing.proofs.pack.Goals as goal

pub returns-in-Err : goal.returns-in-Err
unfolding pack_says
returns-in-Err c = rw c.zero.ensures (sym (refuses _ _ c.in-Err.refusal c.in-Err.ensures))

pub returns : goal.returns
unfolding pack_says
returns c = rw (done _ _ (sym c.in_default.ensures), c.write_packed.ensures)
