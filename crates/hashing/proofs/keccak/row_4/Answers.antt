-- `row_4`: each lane from the plane that is held.
use mathlib.Core.Path.{refl, ◌∙◌}
use mathlib.Core.Bool.{true, false, xor}
use lib.Dec.{lit<}
use Rattle.hashing.specs.Keccak.{plane}
use Rattle.hashing.specs.inner.Inverted.{turned, inverted}
use Rattle.hashing.proofs.keccak.Laws.{five}
use Rattle.hashing.proofs.keccak.Inverting.{column, effect, arriving, row-lane, twice}
use Rattle.hashing.proofs.keccak.row_4.Goals as goal

pub returns : goal.returns
unfolding plane turned inverted column effect arriving xor
returns c =
    let lawful = row-lane c.args.a.now _ 4 c.requires.fact_2 c.moved_row-b.ensures (lit< tt) in
    five _ (rw (c.inverse.ensures, twice) at c.both.ensures ∙ lawful 0 (lit< tt) false false refl)
    (rw c.inverse-2.ensures at c.either.ensures ∙ lawful 1 (lit< tt) true true refl)
    (c.both-2.ensures ∙ lawful 2 (lit< tt) false false refl)
    (c.either-2.ensures ∙ lawful 3 (lit< tt) true false refl)
    (c.both-3.ensures ∙ lawful 4 (lit< tt) false false refl)
