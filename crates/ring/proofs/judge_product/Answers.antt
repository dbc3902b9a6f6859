-- The judge of a product goes down document 01's column.
use mathlib.Core.Path.{◌≡◌, sym}
use mathlib.Core.Bool.{true, false, ◌||◌}
use Rattle.hashing.specs.Answers.{differs, first_of}
use Rattle.ring.specs.Promises.{product_reasons}
use Rattle.ring.proofs.judge_product.Goals as goal
use Rattle.ring.proofs.judge_product.Goals.{After-block-r, After-pad_set-2}

pub returns-then-not-known : goal.returns-then-not-known
unfolding product_reasons first_of
returns-then-not-known c = rw (← c.known.ensures, c.if-not-known.true)

pub returns-then-a-n : goal.returns-then-a-n
unfolding product_reasons first_of differs
returns-then-a-n c =
    rw (← c.known.ensures, c.if-not-known.false, ← c.polynomial-n.ensures, c.if-a-n.true)

-- level and lengths are right: the pads decide
pads : (c : After-pad_set-2) →
    let args = c.args in
    first_of (product_reasons args.level args.a.now args.b.now args.room)
    ≡ elim (c.pad_set.result || c.pad_set-2.result) [ true ↦ 3 | false ↦ 0 ]
unfolding product_reasons first_of differs
pads c =
    rw (
      ← c.known.ensures,
      c.if-not-known.false,
      ← c.polynomial-n.ensures,
      c.if-a-n.false,
      ← c.block-r.ensures,
      ← c.pad_set.ensures,
      ← c.pad_set-2.ensures,
    )

pub returns-then-pad_set : goal.returns-then-pad_set
returns-then-pad_set c = sym (rw c.if-pad_set.true at (pads (goal.at.returns-then-pad_set c).After-pad_set-2))

pub returns : goal.returns
returns c = sym (rw c.if-pad_set.false at (pads (goal.at.returns c).After-pad_set-2))
