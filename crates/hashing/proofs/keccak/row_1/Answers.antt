-- `row_1`: each lane from the plane that is held.
use mathlib.Core.Path.{refl, ◌∙◌}
use mathlib.Core.Bool.{true, false, xor}
use lib.Dec.{lit<}
use Rattle.hashing.specs.Keccak.{plane}
use Rattle.hashing.specs.inner.Inverted.{turned, inverted}
use Rattle.hashing.proofs.keccak.Laws.{five}
use Rattle.hashing.proofs.keccak.Inverting.{column, effect, arriving, row-lane, twice}
use Rattle.hashing.proofs.keccak.row_1.Goals as goal

pub returns : goal.returns
unfolding plane turned inverted column effect arriving xor
returns c =
    let lawful = row-lane c.args.a.now _ 1 c.requires.fact_2 c.moved_row-b.ensures (lit< tt) in
    five _ (c.either.ensures ∙ lawful 0 (lit< tt) true false refl)
    (c.both.ensures ∙ lawful 1 (lit< tt) false false refl)
    (rw (c.inverse.ensures, twice) at c.either-2.ensures ∙ lawful 2 (lit< tt) true false refl)
    (c.either-3.ensures ∙ lawful 3 (lit< tt) true false refl)
    (c.both-2.ensures ∙ lawful 4 (lit< tt) false false refl)
