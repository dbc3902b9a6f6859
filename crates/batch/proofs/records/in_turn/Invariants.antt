-- `in_turn` reads record after record: what is still to come is judged as the whole is.
use mathlib.Core.Path.{◌≡◌}
use Prim.Native.Nat.{◌≤◌}
use lib.ListN.{length, drop}
use Rattle.batch.specs.Triples.{turns}
use Rattle.batch.proofs.records.in_turn.Given as goal

abbrev pub invariant-loop-thing : goal.invariant-loop-thing
invariant-loop-thing l =
    (l.at ≤ length l.bytes) × (turns (drop l.thing-index l.things) l.level l.bytes l.at ≡ turns l.things l.level l.bytes 0)
