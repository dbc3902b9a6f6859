-- `read_record` leaves at the first reason that applies.
use Rattle.std.proofs.lemmas.Result.{err_from_is_err_and}
use borrow.Author.Tests.{lt-ltb, le-ltb, eq-eqb, ne_eqb}
use Rattle.hashing.specs.Answers.{differs, first_of, content, settle}
use Rattle.exchange.specs.Records.{body_of, kind_of, outcome_of, record_reasons, read_record_says}
use Rattle.exchange.proofs.record.read_record.Goals as goal

pub returns-then-bytes-lt6 : goal.returns-then-bytes-lt6
unfolding outcome_of read_record_says record_reasons settle first_of content
returns-then-bytes-lt6 c = rw (lt-ltb _ _ c.if-bytes-lt6.true)

pub returns-then-bytes-body : goal.returns-then-bytes-body
unfolding outcome_of read_record_says record_reasons settle first_of content body_of
returns-then-bytes-body c =
    rw (
      le-ltb _ _ c.if-bytes-lt6.false,
      ← c.four-body.ensures,
      lt-ltb _ _ c.if-bytes-body.true,
    )

pub returns-in_err-kind : goal.returns-in_err-kind
unfolding outcome_of read_record_says record_reasons settle first_of content body_of kind_of
returns-in_err-kind c =
    let p = err_from_is_err_and c.from_residual.result c.from_residual.ensures.1 in
    let unknown = c.in_err-kind.ensures in
    rw (
      p.1,
      p.2,
      unknown.0,
      le-ltb _ _ c.if-bytes-lt6.false,
      ← c.four-body.ensures,
      le-ltb _ _ c.if-bytes-body.false,
      ← c.two.ensures,
      unknown.1,
    )

pub returns-then-body-body_bytes : goal.returns-then-body-body_bytes
unfolding outcome_of read_record_says record_reasons settle first_of content body_of kind_of differs
returns-then-body-body_bytes c =
    let kind = c.in_ok-kind.ensures in
    rw (
      le-ltb _ _ c.if-bytes-lt6.false,
      ← c.four-body.ensures,
      le-ltb _ _ c.if-bytes-body.false,
      ← c.two.ensures,
      kind.0,
      ← kind.1,
      ← kind.2,
      ← c.body_bytes.ensures,
      ne_eqb _ _ c.if-body-body_bytes.true,
    )

pub returns : goal.returns
unfolding outcome_of read_record_says record_reasons settle first_of content body_of kind_of differs
returns c =
    let kind = c.in_ok-kind.ensures in
    rw (
      le-ltb _ _ c.if-bytes-lt6.false,
      ← c.four-body.ensures,
      le-ltb _ _ c.if-bytes-body.false,
      ← c.two.ensures,
      kind.0,
      ← kind.1,
      ← kind.2,
      ← c.body_bytes.ensures,
      eq-eqb _ _ c.if-body-body_bytes.false,
    )
