-- P1 to P12 hold, P5 to P8 replace 0, 1, 0 and 1 positions, and fair positions are drawn as said. Assumes nothing.
use mathlib.Core.Path.{◌≡◌, refl}
use Prim.Native.Nat.{ℕ, ◌-◌, ◌<◌}
use native.Mathlib.Omega.{arith}
use lib.Dec.{lit<}
use Rattle.ring.proofs.Examples.{P1, P2, P3, P4}
use Rattle.ring.specs.Levels.{level1, level3, level5}
use Rattle.ring.specs.Polynomials.{Poly, terms, power, add, weight, listed}
use Rattle.exchange.specs.decoder.Decoder.{Pair, counter, residual, threshold, bound_of, step}
use Rattle.exchange.specs.Examples.{Examples, Threshold5, Counts, FairPositions}
use Rattle.exchange.specs.Fair.{taken, draw_one, draw_on, draw, ran_out}
use Rattle.exchange.specs.Sampler.{candidate, appended, sample_below, sample, replaced_below, replaced}
use Rattle.exchange.proofs.decoder.Laws.{Low, counter_le, step_idles}

-- the bound for gray bits, 99 - 3, is above d too
nothing_flips : (h : Pair) (s : Poly) (e : Pair) → weight level1.r h.half0 ≡ level1.d → weight level1.r h.half1 ≡ level1.d
    → weight level1.r (residual level1.r h s e) ≡ 12323 → (i : ℕ) → step level1 h s i e ≡ e
unfolding bound_of threshold level1
nothing_flips h s e weighs0 weighs1 full = step_idles level1 h s e (low h.half0 weighs0) (low h.half1 weighs1)
  where
    bound : bound_of level1 h s e ≡ 99
    bound = rw full

    few : {w : ℕ} → w ≡ level1.d → w < bound_of level1 h s e - 3
    few is = rw (is, bound) (lit< tt)

    low : (a : Poly) → weight level1.r a ≡ level1.d → Low level1.r a (residual level1.r h s e) (bound_of level1 h s e - 3)
    low a is j = omega (arith, counter_le level1.r a (residual level1.r h s e) j, few is)

pub examples : Examples
unfolding listed candidate appended sample_below sample threshold level1 level3 counter weight terms power add
examples =
    record {
      P1 = P1;
      P2 = P2;
      P3 = P3;
      P4 = P4;
      P5 = refl;
      P6 = refl;
      P7 = refl;
      P8 = refl;
      P9 = (refl, refl);
      P10 = (refl, refl);
      P11 = (refl, lit< tt, nothing_flips);
      P12 = (refl, refl, refl);
    }

pub threshold_5 : Threshold5
unfolding threshold level5
threshold_5 = record { least = refl; above = refl }

pub counts : Counts
unfolding listed candidate appended replaced_below replaced
counts = record { P5 = refl; P6 = refl; P7 = refl; P8 = refl }

pub fair_positions : FairPositions
unfolding listed taken draw_one draw_on draw ran_out
fair_positions = record { listed = refl; short = (refl, refl) }
