-- `step`: black and gray from the same counters, and then the two masked steps.
use mathlib.Core.Path.{◌≡◌, sym, ap, ap₂, ◌∙◌}
use Prim.Native.Nat.{ℕ, ◌-◌, ◌≤◌, ◌<◌}
use native.Mathlib.Omega.{arith}
use Rattle.hashing.specs.Lists.{bits}
use Rattle.ring.specs.Levels.{Level, level_of}
use Rattle.ring.specs.Polynomials.{Poly, weight}
use Rattle.exchange.specs.decoder.Decoder.{Pair, threshold, residual, reaching, without, flipped, bound_of, black, gray, round, masked_step}
use Rattle.exchange.specs.inner.Working.{key_of, pair_of}
use Rattle.exchange.proofs.decoder.Laws.{inside_by, reaching_in, flipped_in, carried_in, threshold_least, step_first, step_later}
use Rattle.exchange.proofs.decoder.rounds.step.Goals as goal
use Rattle.exchange.proofs.decoder.rounds.step.Goals.{After-marks-m, After-turned-first}

-- T, of the residual that is carried along
bound_is : (l : Level) (h e : Pair) (s x : Poly) (t : ℕ) → x ≡ residual l.r h s e → t ≡ threshold l (weight l.r x) → t ≡ bound_of l h s e
unfolding bound_of
bound_is l h e s x t carried is = is ∙ ap (λ (a : Poly). threshold l (weight l.r a)) carried

black_is : (c : After-marks-m) →
    let start = c.args in
    let l = level_of start.level in
    pair_of c.marks-m.result.high ≡ black l (key_of l start.key) (bits 64 start.s) (pair_of start.st.e)
unfolding black
black_is c =
    let l = level_of c.args.level in
    let carried = c.requires.fact_2.1.0 in
    c.marks-m.ensures.0
    ∙ ap₂ (reaching l.r (key_of l c.args.key)) carried (bound_is l _ _ _ _ _ carried c.bound_of-t.ensures.0)

wide_is : (c : After-marks-m) →
    let start = c.args in
    let l = level_of start.level in
    let h = key_of l start.key in
    let s = bits 64 start.s in
    let e = pair_of start.st.e in
    pair_of c.marks-m.result.low ≡ reaching l.r h (residual l.r h s e) (bound_of l h s e - 3)
wide_is c =
    let l = level_of c.args.level in
    let carried = c.requires.fact_2.1.0 in
    c.marks-m.ensures.1
    ∙ ap₂ (λ (a : Poly) (t : ℕ). reaching l.r (key_of l c.args.key) a (t - 3)) carried (bound_is l _ _ _ _ _ carried c.bound_of-t.ensures.0)

first_is : (c : After-turned-first) →
    let start = c.args in
    let l = level_of start.level in
    let h = key_of l start.key in
    let s = bits 64 start.s in
    let e = pair_of start.st.e in
    pair_of c.marks-m.result.high ≡ black l h s e → pair_of c.turned-first.result.e ≡ round l h s e
unfolding round
first_is c marked = c.turned-first.ensures.1 ∙ c.flipped.ensures ∙ ap (flipped (pair_of c.args.st.e)) marked

pub flipped-requires : goal.flipped-requires
flipped-requires c =
    let l = level_of c.args.level in
    (c.requires.fact_2.1.1, inside_by l.r c.marks-m.ensures.0 (reaching_in l.r (key_of l c.args.key) _ _))

pub turned-first-requires : goal.turned-first-requires
turned-first-requires c =
    let l = level_of c.args.level in
    let marked = inside_by l.r c.marks-m.ensures.0 (reaching_in l.r (key_of l c.args.key) _ _) in
    record {
      fact_1 = c.requires.fact_1;
      fact_2 = (c.requires.fact_2.0, inside_by l.r c.flipped.ensures (flipped_in l.r _ _ c.requires.fact_2.1.1 marked));
    }

pub returns-then-i-gt0 : goal.returns-then-i-gt0
returns-then-i-gt0 c =
    let start = c.args in
    let l = level_of start.level in
    let later : 0 < start.i = omega arith in
    let made = c.turned-first.ensures in
    let marked = black_is (goal.at.returns-then-i-gt0 c).After-marks-m in
    let first = first_is (goal.at.returns-then-i-gt0 c).After-turned-first marked in
    (made.0, first ∙ sym (step_later l (key_of l start.key) (bits 64 start.s) (pair_of start.st.e) start.i later))

pub returns : goal.returns
unfolding gray
returns c =
    let start = c.args in
    let l = level_of start.level in
    let h = key_of l start.key in
    let s = bits 64 start.s in
    let marked = black_is (goal.at.returns c).After-marks-m in
    let first : start.i ≤ 0 = omega arith in
    let made = c.masked_step.ensures in (
      made.0,
      made.1
          ∙ ap₂ (masked_step l h s) (c.without-gray.ensures ∙ ap₂ without (wide_is (goal.at.returns c).After-marks-m) marked)
          (c.masked_step-second.ensures.1 ∙ ap₂ (masked_step l h s) marked (first_is (goal.at.returns c).After-turned-first marked))
          ∙ sym (step_first l h s (pair_of start.st.e) start.i first),
    )

pub bound_of-t-requires : goal.bound_of-t-requires
bound_of-t-requires c = carried_in c.args.level _ _ _ c.requires.fact_2.0 c.requires.fact_2.1

pub overflow_sub-t : goal.overflow_sub-t
overflow_sub-t c = rw c.bound_of-t.ensures.0 (threshold_least c.args.level _)

pub marks-m-requires : goal.marks-m-requires
marks-m-requires c = let small = c.bound_of-t.ensures.1 in
    record {
      fact_1 = c.requires.fact_1;
      fact_2 = carried_in c.args.level _ _ _ c.requires.fact_2.0 c.requires.fact_2.1;
      fact_3 = (small, omega (arith, small));
    }

pub without-gray-requires : goal.without-gray-requires
without-gray-requires c = let l = level_of c.args.level in inside_by l.r c.marks-m.ensures.1 (reaching_in l.r (key_of l c.args.key) _ _)
