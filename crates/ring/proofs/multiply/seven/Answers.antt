-- `multiply::seven` meets its contract. Assumes nothing.
use mathlib.Core.Bool.{Bool}
use Prim.Native.Nat.{ℕ, ◌+◌}
use lib.ListN.{get_or}
use Rattle.hashing.specs.Lists.{bit_at}
use Rattle.ring.proofs.Packed.{bits_same, sum_one, sum_more}
use Rattle.ring.proofs.multiply.seven.Goals as goal

pub returns : goal.returns
returns c =
    let given = c.args in
    let t = given.t.now in
    let row : ℕ → ℕ = λ m. get_or t (get_or given.o m 0 + given.i) 0 in
    let f : ℕ → ℕ → Bool = λ m. bit_at (row m) in
    (sum_more f _ (sum_more f _ (sum_more f _ (sum_more f _ (sum_more f _ (sum_more f _ (sum_one f (bits_same c.entry.ensures))
    (bits_same c.entry-2.ensures))
    (bits_same c.entry-3.ensures))
    (bits_same c.entry-4.ensures))
    (bits_same c.entry-5.ensures))
    (bits_same c.entry-6.ensures))
    (bits_same c.entry-7.ensures)).bit
