-- `set_column`: k planes have their word, and nothing else is touched.
use mathlib.Core.Path.{◌≡◌}
use native.Mathlib.Omega.{arith}
use lib.ListN.{length}
use Rattle.exchange.specs.inner.Planes.{planes}
use Rattle.exchange.proofs.decoder.planes.Laws.{column_is, column_ext}
use Rattle.exchange.proofs.decoder.planes.set_column.Goals as goal

pub returns : goal.returns
returns c =
    let l = c.loop-k in
    let given = c.args in
    let long : length given.q ≡ planes = omega arith in
    record {
      fact_1 = column_is l.p given.q given.i long (λ k h. l.invariant.1 k (omega arith));
      fact_2 = λ j h other. column_ext l.p given.p.now j (λ k. l.invariant.2 j k h other);
    }
