-- `masked_step`: of the marked bits those are flipped that reach the masked bound.
use mathlib.Core.Path.{◌≡◌, ap, ap₂, ◌∙◌}
use Prim.Native.Nat.{ℕ, ◌+◌, ◌/◌}
use native.Mathlib.Omega.{arith}
use Rattle.ring.specs.Polynomials.{Poly}
use Rattle.ring.specs.Levels.{Level, level_of}
use Rattle.ring.proofs.Levels.{sizes}
use Rattle.exchange.specs.decoder.Decoder.{Pair, reaching, among, flipped, masked_step}
use Rattle.exchange.specs.inner.Working.{key_of, pair_of}
use Rattle.exchange.proofs.decoder.Laws.{InPair, inside_by, reaching_in, among_in, flipped_in, carried_in}
use Rattle.exchange.proofs.decoder.rounds.masked_step.Goals as goal

-- the marks, and the marked bits among them, are of the ring
among_inside : (l : Level) (h marked m n : Pair) (x : Poly) (bound : ℕ) → m ≡ reaching l.r h x bound → n ≡ among marked m → InPair l.r m × InPair l.r n
among_inside l h marked m n x bound is_m is_n =
    let inside = inside_by l.r is_m (reaching_in l.r h x bound) in
    (inside, inside_by l.r is_n (among_in l.r marked _ inside))

pub among-requires : goal.among-requires
among-requires c =
    let l = level_of c.args.level in
    inside_by l.r c.marks-again.ensures.0 (reaching_in l.r (key_of l c.args.key) _ _)

pub flipped-requires : goal.flipped-requires
flipped-requires c =
    let l = level_of c.args.level in
    (c.requires.fact_2.1.1, (among_inside l (key_of l c.args.key) (pair_of c.args.marked) _ _ _ _ c.marks-again.ensures.0 c.among.ensures).1)

pub turned-requires : goal.turned-requires
turned-requires c =
    let l = level_of c.args.level in
    let taken = among_inside l (key_of l c.args.key) (pair_of c.args.marked) _ _ _ _ c.marks-again.ensures.0 c.among.ensures in
    record {
      fact_1 = c.requires.fact_1;
      fact_2 = (c.requires.fact_2.0, inside_by l.r c.flipped.ensures (flipped_in l.r _ _ c.requires.fact_2.1.1 taken.1));
    }

pub returns : goal.returns
unfolding masked_step
returns c =
    let l = level_of c.args.level in
    let made = c.turned.ensures in (
      made.0,
      made.1 ∙ c.flipped.ensures
          ∙ ap (flipped (pair_of c.args.st.e))
          (c.among.ensures
          ∙ ap (among (pair_of c.args.marked))
          (c.marks-again.ensures.0
          ∙ ap₂ (reaching l.r (key_of l c.args.key)) c.requires.fact_2.1.0 (ap (λ (d : ℕ). (d + 1) / 2 + 1) c.key_weight.ensures))),
    )

pub overflow_add-bound : goal.overflow_add-bound
overflow_add-bound c = omega (arith, c.key_weight.ensures, sizes c.args.level)

pub overflow_cast-bound : goal.overflow_cast-bound
overflow_cast-bound c = omega (arith, c.key_weight.ensures, sizes c.args.level)

pub marks-again-requires : goal.marks-again-requires
marks-again-requires c = let small = sizes c.args.level in
    record {
      fact_1 = c.requires.fact_1;
      fact_2 = carried_in c.args.level _ _ _ c.requires.fact_2.0 c.requires.fact_2.1;
      fact_3 = (omega arith, omega arith);
    }
