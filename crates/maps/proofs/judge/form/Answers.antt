-- `form` leaves at the first reason of the form that applies.
use borrow.Author.Tests.{lt-ltb, le-ltb, eq-eqb, ne_eqb}
use Rattle.hashing.specs.Answers.{differs, first_of}
use Rattle.exchange.specs.Records.{body_of, kind_of}
use Rattle.maps.specs.Promises.{form_reasons}
use Rattle.ring.proofs.Levels.{level_small}
use Rattle.maps.proofs.judge.form.Goals as goal

pub returns-then-bytes-lt6 : goal.returns-then-bytes-lt6
unfolding form_reasons first_of
returns-then-bytes-lt6 c = rw (lt-ltb _ _ c.if-bytes-lt6.true)

pub returns-then-bytes-body : goal.returns-then-bytes-body
unfolding form_reasons first_of body_of
returns-then-bytes-body c = rw (le-ltb _ _ c.if-bytes-lt6.false, ← c.four-body.ensures, lt-ltb _ _ c.if-bytes-body.true)

pub returns-then-two-from : goal.returns-then-two-from
unfolding form_reasons first_of body_of kind_of differs
returns-then-two-from c =
    rw (
      le-ltb _ _ c.if-bytes-lt6.false,
      ← c.four-body.ensures,
      le-ltb _ _ c.if-bytes-body.false,
      ← c.two.ensures,
      ← c.kind.ensures,
      ← c.from.ensures,
      ne_eqb _ _ c.if-two-from.true,
    )

pub returns-then-body-ne-BODY : goal.returns-then-body-ne-BODY
unfolding form_reasons first_of body_of kind_of differs
returns-then-body-ne-BODY c =
    rw (
      le-ltb _ _ c.if-bytes-lt6.false,
      ← c.four-body.ensures,
      le-ltb _ _ c.if-bytes-body.false,
      ← c.two.ensures,
      ← c.kind.ensures,
      ← c.from.ensures,
      eq-eqb _ _ c.if-two-from.false,
      ne_eqb _ _ c.if-body-ne-BODY.true,
    )

pub returns : goal.returns
unfolding form_reasons first_of body_of kind_of differs
returns c =
    rw (
      le-ltb _ _ c.if-bytes-lt6.false,
      ← c.four-body.ensures,
      le-ltb _ _ c.if-bytes-body.false,
      ← c.two.ensures,
      ← c.kind.ensures,
      ← c.from.ensures,
      eq-eqb _ _ c.if-two-from.false,
      eq-eqb _ _ c.if-body-ne-BODY.false,
    )

pub kind-requires : goal.kind-requires
kind-requires c = level_small c.args.level c.requires
