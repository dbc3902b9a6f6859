-- `meant` compares the tag, the kart and the counter, in this order.
use mathlib.Core.Path.{◌≡◌}
use borrow.Author.Tests.{eq-eqb, ne_eqb, le-leb, lt-leb}
use Rattle.hashing.specs.Answers.{differs, first_of}
use Rattle.maps.specs.Promises.{meant_reasons}
use Rattle.maps.specs.Writes.{tag_of, kart_in, counter_in, covered_in, tag_in, equal}
use Rattle.maps.proofs.Equal.{told}
use Rattle.maps.proofs.judge.meant.Goals as goal
use Rattle.maps.proofs.judge.meant.Goals.{After-same}

-- the first test is the comparison with the right tag
tag_is : (c : After-same) →
    let given = c.args in
    let bytes = given.bytes.now in
    equal (tag_in bytes) (tag_of given.session_key.now (covered_in bytes)) ≡ c.same.result
unfolding tag_in covered_in
tag_is c = rw c.tag_of-tag.ensures at (told c.same.result _ _ c.same.ensures)

pub returns-then-not-same : goal.returns-then-not-same
unfolding meant_reasons first_of
returns-then-not-same c = rw (tag_is (goal.at.returns-then-not-same c).After-same, c.if-not-same.true)

pub returns-then-four-kart : goal.returns-then-four-kart
unfolding meant_reasons first_of differs kart_in
returns-then-four-kart c =
    rw (tag_is (goal.at.returns-then-four-kart c).After-same, c.if-not-same.false, ← c.four.ensures, ne_eqb _ _ c.if-four-kart.true)

pub returns-then-four-last : goal.returns-then-four-last
unfolding meant_reasons first_of differs kart_in counter_in
returns-then-four-last c =
    rw (
      tag_is (goal.at.returns-then-four-last c).After-same,
      c.if-not-same.false,
      ← c.four.ensures,
      eq-eqb _ _ c.if-four-kart.false,
      ← c.four-2.ensures,
      le-leb _ _ c.if-four-last.true,
    )

pub returns : goal.returns
unfolding meant_reasons first_of differs kart_in counter_in
returns c =
    rw (
      tag_is (goal.at.returns c).After-same,
      c.if-not-same.false,
      ← c.four.ensures,
      eq-eqb _ _ c.if-four-kart.false,
      ← c.four-2.ensures,
      lt-leb _ _ c.if-four-last.false,
    )
