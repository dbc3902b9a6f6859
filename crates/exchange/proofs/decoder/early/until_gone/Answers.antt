-- `until_gone`: before turn i the error is that after i rounds, and none of fewer left no residual.
use mathlib.Core.Path.{◌≡◌, sym, ap, ◌∙◌}
use mathlib.Core.Bool.{true, false}
use mathlib.Core.List.{List}
use Prim.Native.Nat.{ℕ, ◌+◌, ◌<◌}
use native.Mathlib.Decide.{dec_lt}
use native.Mathlib.Omega.{arith}
use borrow.Author.Tests.{eq-eqb, ne_eqb}
use Rattle.hashing.specs.Lists.{bits}
use Rattle.ring.specs.Levels.{Level, level_of}
use Rattle.ring.specs.Polynomials.{Poly, weight}
use Rattle.ring.proofs.Inverses.{Stops, stops_once}
use Rattle.ring.proofs.Levels.{facts, r_pos}
use Rattle.exchange.specs.declared.decoder.rounds
use Rattle.exchange.specs.declared.halves.Halves.{Halves}
use Rattle.exchange.specs.decoder.Decoder.{Pair, residual, step, after, bgf}
use Rattle.exchange.specs.decoder.Stopping.{gone, fewest}
use Rattle.exchange.specs.inner.Working.{key_of, pair_of, Carried}
use Rattle.exchange.proofs.decoder.Laws.{carried_first, carried_in, after_more}
use Rattle.exchange.proofs.decoder.Stopping.{fewest_is, early_is_full}
use Rattle.exchange.proofs.decoder.early.until_gone.Goals as goal
use Rattle.exchange.proofs.decoder.early.until_gone.Invariants.{Going}
use Rattle.exchange.proofs.decoder.early.until_gone.Goals.{In-loop-i}

-- the weight tells whether the residual is gone
module _ {l : Level} {h : Pair} {s : Poly} {state : rounds.State.State} {left i : ℕ} (going : Going l h s state left i) where
  left_is : left ≡ weight l.r (residual l.r h s (after (step l h s) i))
  left_is = going.weighs ∙ ap (weight l.r) (going.carried.0 ∙ ap (residual l.r h s) going.error)

  still : 0 < left → gone l h s i ≡ false
  unfolding gone
  still some = ne_eqb (weight l.r (residual l.r h s (after (step l h s) i))) 0 (λ none. omega (arith, left_is))

  over : left ≡ 0 → gone l h s i ≡ true
  unfolding gone
  over none = eq-eqb _ 0 (sym left_is ∙ none)

  -- one round more
  earlier : 0 < left → (j : ℕ) → j < i + 1 → gone l h s j ≡ false
  earlier some j below = go (dec_lt j i)
    where
      go : Dec (j < i) → gone l h s j ≡ false
      go (yes fewer) = going.before j fewer
      go (no other) = let last : j ≡ i = omega arith in rw last (still some)

  stopped : (i < 5 → left ≡ 0) → Stops 5 (gone l h s) i
  stopped ends = record { within = going.within; before = going.before; holds = λ fewer. over (ends fewer) }

pub loop-i-init : goal.loop-i-init
unfolding after
loop-i-init c =
    let start = c.args in
    let l = level_of start.level in
    let none = c.nothing.ensures in
    record {
      within = omega arith;
      carried = carried_first l (key_of l start.key) _ none;
      error = none;
      weighs = c.ones-left.ensures;
      before = λ j below. absurd (omega arith);
    }

pub ones-left-requires-in-loop-i : goal.ones-left-requires-in-loop-i
ones-left-requires-in-loop-i c =
    carried_in c.args.level _ _ _ c.requires.fact_2 c.step-state.ensures.0

pub loop-i-preserved : goal.loop-i-preserved
loop-i-preserved c =
    let start = c.args in
    let l = level_of start.level in
    let h = key_of l start.key in
    let s = bits 64 start.s in
    let turn = c.loop-i in
    let made = c.step-state.ensures in
    record {
      within = omega arith;
      carried = made.0;
      error = made.1 ∙ ap (step l h s turn.i) turn.invariant.error ∙ sym (after_more (step l h s) turn.i);
      weighs = c.ones-left-in-loop-i.ensures;
      before = earlier turn.invariant (omega (arith, c.if-left-eq0.false));
    }

-- what the rounds so far promise where they stop
done : (level : ℕ) (key : Halves (List ℕ)) {s : Poly} {state : rounds.State.State} {left i : ℕ}
    → Going (level_of level) (key_of (level_of level) key) s state left i → (i < 5 → left ≡ 0)
    → Carried (level_of level) (key_of (level_of level) key) s state
    × (pair_of state.e ≡ bgf (level_of level) (key_of (level_of level) key) s)
    × (left ≡ weight (level_of level).r (bits 64 state.x))
    × (i ≡ fewest (level_of level) (key_of (level_of level) key) s)
done level key {s} going ends =
    let l = level_of level in
    let h = key_of l key in
    let stops = stopped going ends in
    let pos = r_pos level in
    let above = (facts level).bounds.least in
    (going.carried, going.error ∙ (early_is_full l pos above h s stops).0, going.weighs, stops_once stops (fewest_is l pos above h s))

pub returns-then-left-eq0 : goal.returns-then-left-eq0
returns-then-left-eq0 c = done c.args.level c.args.key c.loop-i.invariant (λ fewer. c.if-left-eq0.true)

pub returns : goal.returns
returns c =
    let all : c.loop-i.i ≡ 5 = omega arith in
    done c.args.level c.args.key (rw all at c.loop-i.invariant) (λ fewer. absurd (omega arith))
