-- `pairs` writes two words a turn: before turn i the first 2 i words are the square's.
use mathlib.Core.Path.{◌≡◌, ap, ◌∙◌}
use mathlib.Core.Bool.{Bool, false}
use Prim.Native.Nat.{ℕ, ◌+◌, ◌*◌}
use native.Mathlib.Nat.{not-suc-le-zero}
use native.Mathlib.Omega.{arith}
use lib.ListN.{length, set, length-set}
use Rattle.hashing.specs.Lists.{bits}
use Rattle.ring.specs.inner.Even.{source}
use Rattle.ring.specs.inner.Sizes.{words}
use Rattle.ring.proofs.Packed.{bits-zeros, fill_below, fill_above}
use Rattle.ring.proofs.square.Laws.{lower_word, upper_word}
use Rattle.ring.proofs.square.pairs.Goals as goal

pub loop-i-init : goal.loop-i-init
loop-i-init c = (
  omega arith,
  omega arith,
  λ k past. ap (λ (p : ℕ → Bool). p k) (ap (bits 64) c.filled-y.ensures ∙ bits-zeros words),
  λ k below. absurd (not-suc-le-zero below),
)

pub loop-i-preserved : goal.loop-i-preserved
loop-i-preserved c =
    let was = c.loop-i in
    let given = c.args in
    let d = given.d.now in
    let shows = c.shown-h in
    let low = c.lower in
    let i = was.i in
    let first = set was.y (2 * i) low.result in
    let size : length first ≡ words = length-set was.y (2 * i) low.result ∙ was.invariant.1 in
    let one = fill_below was.y (2 * i) low.result (λ k. bits 64 d (source given.middle k)) (omega arith) was.invariant.3
    (lower_word d given.middle i low.result shows.result shows.ensures low.ensures) in
    let two = fill_below first (2 * i + 1) c.upper.result (λ k. bits 64 d (source given.middle k)) (omega arith) one
    (upper_word d given.middle i c.upper.result shows.result shows.ensures c.upper.ensures) in
    let above = fill_above first (2 * i + 1) c.upper.result (λ k. false)
    (fill_above was.y (2 * i) low.result (λ k. false) was.invariant.2) in (
      omega arith,
      length-set first (2 * i + 1) c.upper.result ∙ size,
      (λ k past. above k (omega arith)),
      λ k below. two k (omega arith),
    )
