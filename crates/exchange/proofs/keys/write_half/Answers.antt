-- `write_half` writes the exponents, as many as the half weighs.
use mathlib.Core.Path.{sym, ap, ◌∙◌}
use Prim.Native.Nat.{◌*◌, ◌≤◌}
use native.Mathlib.Omega.{arith}
use lib.ListN.{length}
use lib.Seq.{length-take-le}
use Rattle.hashing.specs.Lists.{bits}
use Rattle.ring.specs.Levels.{level_of}
use Rattle.ring.proofs.Levels.{r_small, sizes}
use Rattle.ring.proofs.Weights.{length-rising}
use Rattle.exchange.proofs.keys.write_half.Goals as goal
use Rattle.exchange.proofs.keys.write_half.Goals.{After-rising-list}

pub rising-list-requires : goal.rising-list-requires
rising-list-requires c =
    let level = c.args.level in
    let count = length-rising (level_of level).r (bits 64 c.args.h) ∙ c.requires.fact_3 ∙ sym c.key_weight-d.ensures in
    record {
      fact_1 = rw c.block.ensures (r_small level, omega (arith, c.key_weight-d.ensures, sizes level));
      fact_2 = rw c.block.ensures c.requires.fact_2;
      fact_3 = rw c.block.ensures count;
    }

room : (c : After-rising-list) → c.key_weight-d.result ≤ length c.rising-list.result
room c = omega (arith, sizes c.args.level)

pub write_numbers-requires : goal.write_numbers-requires
write_numbers-requires c =
    rw (length-take-le _ _ (room (goal.at.write_numbers-requires c).After-rising-list)) (c.requires.fact_1 ∙ ap (◌*◌ 2) (sym c.key_weight-d.ensures))

pub slice_bounds-list-end : goal.slice_bounds-list-end
slice_bounds-list-end c = room (goal.at.slice_bounds-list-end c).After-rising-list

pub slice_bounds-write_numbers-end : goal.slice_bounds-write_numbers-end
slice_bounds-write_numbers-end c = sym (length-take-le _ _ (room (goal.at.slice_bounds-write_numbers-end c).After-rising-list))
