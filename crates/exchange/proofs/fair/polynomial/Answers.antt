-- `polynomial` sets the bits of the positions that were drawn.
use mathlib.Core.Path.{◌≡◌, sym, ap, ap₂, ◌∙◌}
use Prim.Native.Nat.{ℕ, ◌+◌, ◌≤◌}
use native.Mathlib.Omega.{arith}
use lib.Dec.{ltb}
use lib.ListN.{length, replicate, length-replicate}
use Rattle.ring.specs.Levels.{level_of}
use Rattle.ring.specs.Polynomials.{support}
use Rattle.ring.specs.inner.Sizes.{words}
use Rattle.ring.proofs.Levels.{sizes}
use Rattle.exchange.specs.Fair.{most_words, ran_out, drawn_for}
use Rattle.exchange.proofs.fair.Laws.{fair_sound, fair_used}
use Rattle.exchange.proofs.fair.polynomial.Goals as goal
use Rattle.exchange.proofs.fair.polynomial.Goals.{After-positions-drawn}

-- words used and positions listed are few, and what is left of the words is passed over
counted : (c : After-positions-drawn) →
    let given = c.args in
    (c.positions-drawn.result.used ≤ most_words) × (c.positions-drawn.result.used ≡ (drawn_for (level_of given.level) given.words.now).passed + c.positions-drawn.result.listed)
counted c =
    let given = c.args in
    let l = level_of given.level in
    let is = c.positions-drawn.ensures in
    (omega (arith, is.2, fair_used l given.words.now, c.requires), omega (arith, is.1, is.2, (fair_sound l given.words.now).counted))

pub place-requires : goal.place-requires
place-requires c =
    let given = c.args in
    let l = level_of given.level in
    let zeros = c.filled-placed.ensures in
    let long : length c.filled-placed.result ≡ words = ap length zeros ∙ length-replicate {A = ℕ} words 0 in
    let bounds = sizes given.level in
    record {
      fact_1 = zeros ∙ ap (λ (n : ℕ). replicate n 0) (sym long);
      fact_2 = rw c.positions-drawn.ensures.0 (λ p listed. let below = (fair_sound l given.words.now).within p listed in omega (arith, long));
    }

pub returns : goal.returns
unfolding support ran_out
returns c =
    let is = c.positions-drawn.ensures in
    (rw is.0 at c.place.ensures, ap₂ ltb is.1 c.key_weight.ensures, is.2, omega (arith, (counted (goal.at.returns c).After-positions-drawn).1))

pub overflow_cast-result : goal.overflow_cast-result
overflow_cast-result c = omega (arith, counted (goal.at.overflow_cast-result c).After-positions-drawn)

pub overflow_sub-result : goal.overflow_sub-result
overflow_sub-result c = omega (arith, counted (goal.at.overflow_sub-result c).After-positions-drawn)

pub overflow_cast-result-2 : goal.overflow_cast-result-2
overflow_cast-result-2 c = omega (arith, counted (goal.at.overflow_cast-result-2 c).After-positions-drawn)
