-- `doubled`: pairs of words, and one more where q is even.
use mathlib.Core.Path.{◌≡◌}
use mathlib.Core.Bool.{false}
use Prim.Native.Nat.{◌+◌, ◌*◌, ◌/◌}
use native.Mathlib.Omega.{arith}
use Rattle.hashing.specs.Lists.{bits}
use Rattle.ring.specs.inner.Even.{source}
use Rattle.ring.proofs.Packed.{fill_below, fill_above}
use Rattle.ring.proofs.square.Laws.{lower_word}
use Rattle.ring.proofs.square.doubled.Goals as goal

pub returns : goal.returns
returns c =
    let shows = c.shown in
    let pairs = c.pairs-y in
    let given = c.args in
    let q = given.q in
    let d = given.d.now in
    let half : 2 * (q / 2) ≡ q = omega arith in
    let all : 2 * ((q + 1) / 2) ≡ q = omega arith in
    let before = rw all at pairs.ensures in record {
      fact_1 = fill_above pairs.result q c.lower.result (λ k. false) before.fact_1;
      fact_2 = fill_below pairs.result q c.lower.result (λ k. bits 64 d (source given.middle k)) (omega arith) before.fact_2
          (rw half at (lower_word d given.middle (q / 2) c.lower.result shows.result shows.ensures c.lower.ensures));
    }
