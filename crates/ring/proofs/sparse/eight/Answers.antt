-- `eight`: one call for each window.
use mathlib.Core.Bool.{Bool}
use Prim.Native.Nat.{ℕ, ◌+◌, ◌*◌}
use lib.ListN.{get_or}
use Rattle.hashing.specs.Lists.{bits}
use Rattle.ring.proofs.Packed.{sum_one, sum_more}
use Rattle.ring.proofs.sparse.eight.Goals as goal

pub returns : goal.returns
returns c =
    let given = c.args in
    let f : ℕ → ℕ → Bool = λ m e. bits 64 given.d.now (get_or given.from m 0 + (64 * given.i + e)) in
    (sum_more f _ (sum_more f _ (sum_more f _ (sum_more f _ (sum_more f _ (sum_more f _ (sum_more f _ (sum_one f c.shown.ensures)
    c.shown-2.ensures)
    c.shown-3.ensures)
    c.shown-4.ensures)
    c.shown-5.ensures)
    c.shown-6.ensures)
    c.shown-7.ensures)
    c.shown-8.ensures).bit
