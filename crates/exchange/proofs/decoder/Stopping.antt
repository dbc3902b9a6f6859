-- A decoder that stops when the residual is gone: no later round would change the error, so what it finds is what the full decoder
-- finds. Assumes nothing.
use mathlib.Core.Path.{◌≡◌, refl, sym, ap, ◌∙◌}
use mathlib.Core.Bool.{Bool, true, false, not, false≢true}
use Prim.Native.Nat.{ℕ, zero, suc, ◌+◌, ◌-◌, ◌%◌, ◌<◌}
use native.Mathlib.Decide.{dec_lt}
use native.Mathlib.Nat.{add-zero, add-suc, mod-lt}
use native.Mathlib.Omega.{arith}
use borrow.Author.Tests.{eqb-true, ne_eqb, lt-ltb}
use lib.Dec.{eqb, ltb}
use Rattle.ring.specs.Levels.{Level}
use Rattle.ring.specs.Polynomials.{Poly, both, weight}
use Rattle.ring.proofs.Inverses.{Stops, first_stops}
use Rattle.ring.proofs.Weights.{weight_ext, weight-none, weight_clear}
use Rattle.exchange.specs.decoder.Decoder.{Pair, counter, residual, bound_of, step, after, bgf, failed}
use Rattle.exchange.specs.decoder.Stopping.{gone, fewest}
use Rattle.exchange.proofs.decoder.Laws.{Low, step_idles, threshold_above}

-- a counter reads the residual below r alone
counter-none : (r : ℕ) → 0 < r → (h res : Poly) → weight r res ≡ 0 → (j : ℕ) → counter r h res j ≡ 0
unfolding counter
counter-none r pos h res none j =
    weight_ext r {b = λ k. false} (λ p _. ap (both (h p)) (weight_clear r res none ((j + p) % r) (mod-lt (j + p) pos)) ∙ neither (h p)) ∙ weight-none r
  where
    neither : (b : Bool) → both b false ≡ false
    neither true = refl
    neither false = refl

left_test : (w : ℕ) → not (eqb w 0) ≡ ltb 0 w
left_test zero = refl
left_test (suc w) = rw (ne_eqb (suc w) 0 (λ e. omega arith), lt-ltb 0 (suc w) (omega arith))

module _ (l : Level) (pos : 0 < l.r) (above : 3 < l.least) (h : Pair) (s : Poly) where
  -- "T the threshold" is above 3, so no bit is black or gray where all counters are 0
  step_over_nothing : (e : Pair) → weight l.r (residual l.r h s e) ≡ 0 → (i : ℕ) → step l h s i e ≡ e
  unfolding bound_of
  step_over_nothing e none = step_idles l h s e (low h.half0) (low h.half1)
    where
      low : (a : Poly) → Low l.r a (residual l.r h s e) (bound_of l h s e - 3)
      low a j = rw (counter-none l.r pos a (residual l.r h s e) none j) (omega (arith, threshold_above l above (weight l.r (residual l.r h s e))))

  gone_stays : (n k : ℕ) → gone l h s n ≡ true → after (step l h s) (n + k) ≡ after (step l h s) n
  unfolding gone after
  gone_stays n zero is = ap (after (step l h s)) (add-zero n)
  gone_stays n (suc k) is =
      ap (after (step l h s)) (add-suc n k) ∙ ap (step l h s (n + k)) (gone_stays n k is)
      ∙ step_over_nothing (after (step l h s) n) (eqb-true _ _ is) (n + k)

  -- the residual is gone after the rounds that are told and after none of fewer, or 5 are told
  pub fewest_is : Stops 5 (gone l h s) (fewest l h s)
  unfolding fewest
  fewest_is = first_stops 5 (gone l h s)

  -- where the rounds stop, the error is that of five, and a residual is left just if five leave one
  pub early_is_full : {n : ℕ} → Stops 5 (gone l h s) n → (after (step l h s) n ≡ bgf l h s) × (not (gone l h s n) ≡ failed bgf l h s)
  unfolding gone bgf failed
  early_is_full {n} stops = (same, left_test (left (after (step l h s) n)) ∙ ap (λ (e : Pair). ltb 0 (left e)) same)
    where
      left : Pair → ℕ
      left e = weight l.r (residual l.r h s e)

      go : Dec (n < 5) → after (step l h s) n ≡ after (step l h s) 5
      go (yes fewer) =
          let all : n + (5 - n) ≡ 5 = omega arith in
          sym (gone_stays n (5 - n) (stops.holds fewer)) ∙ ap (after (step l h s)) all
      go (no other) = let all : n ≡ 5 = omega (arith, stops.within) in ap (after (step l h s)) all

      same : after (step l h s) n ≡ after (step l h s) 5
      same = go (dec_lt n 5)

  -- 6 tells 5 rounds
  pub fewest_failed : failed bgf l h s ≡ true → fewest l h s ≡ 5
  fewest_failed fails = go (dec_lt (fewest l h s) 5)
    where
      go : Dec (fewest l h s < 5) → fewest l h s ≡ 5
      go (yes fewer) = absurd (false≢true (sym (ap not (fewest_is.holds fewer)) ∙ (early_is_full fewest_is).1 ∙ fails))
      go (no other) = omega (arith, fewest_is.within)
