-- `look_at` reads the three records; a whole triple is judged by what it holds, and a fault handed on.
use mathlib.Core.Path.{◌≡◌, sym}
use Prim.Native.Nat.{◌<◌}
use native.Mathlib.Omega.{arith}
use lib.ListN.{length}
use Rattle.exchange.specs.Records.{kind_of}
use Rattle.batch.specs.Triples.{turns, triple, level_in}
use Rattle.std.proofs.Common.{Ok}
use Rattle.batch.specs.inner.Windows.{meant}
use Rattle.batch.proofs.Judging.{told, whole_triple}
use Rattle.batch.proofs.triple.Laws.{short_means, whole_means, contents_within}
use Rattle.batch.proofs.triple.look_at.Goals as goal
use Rattle.batch.proofs.triple.look_at.Goals.{In-Ok}

pub returns-then-bytes-lt6-clause-by_index : goal.returns-then-bytes-lt6-clause-by_index
unfolding meant
returns-then-bytes-lt6-clause-by_index c =
    short_means c.args.bytes.now c.args.ended c.requires.fact_2 c.requires.fact_1 c.if-bytes-lt6.true

-- the run that is read is the first record's level's
whole_is : (c : In-Ok) →
    let bytes = c.args.bytes.now in
    turns triple (level_in bytes) bytes 0 ≡ Ok c.in-Ok.used
unfolding triple level_in kind_of
whole_is c = sym (rw c.two-level.ensures at c.in-Ok.ensures)

pub whole-requires : goal.whole-requires
unfolding level_in kind_of
whole-requires c =
    let is = whole_triple c.args.bytes.now _ (whole_is (goal.at.whole-requires c).In-Ok) in
    rw c.two-level.ensures (is.level_known, is.size, is.within)

pub faulty-requires-clause-bytes_value : goal.faulty-requires-clause-bytes_value
unfolding triple level_in kind_of
faulty-requires-clause-bytes_value c = sym (rw c.two-level.ensures at c.in-Err.ensures)

pub returns-in-Ok : goal.returns-in-Ok
unfolding meant told level_in kind_of
returns-in-Ok c =
    let bytes = c.args.bytes.now in
    let used = c.in-Ok.used in
    let is = whole_triple bytes used (whole_is (goal.at.returns-in-Ok c).In-Ok) in
    let some : 0 < used = omega (arith, is.size) in
    record {
      by_index = rw (c.whole.ensures, c.two-level.ensures) (whole_means bytes c.args.ended c.requires.fact_2 used (whole_is (goal.at.returns-in-Ok c).In-Ok));
      within = rw (c.whole.ensures, c.two-level.ensures) (contents_within (level_in bytes) _ _ _ used (length bytes) some is.within);
    }
