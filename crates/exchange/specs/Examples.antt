-- "Checked examples", those "Proved (P1 to P12)", as one claim. Assumes nothing.
use Rattle.std.specs.Prelude.{◌≡◌, true, false, [], ◌∷◌, ℕ, ◌-◌, ◌^◌, ◌<◌}
use Rattle.ring.specs.Levels.{level1, level3, level5}
use Rattle.ring.specs.Polynomials.{Poly, mul, terms, weight, IsInverse, has_inverse, inverse_of}
use Rattle.exchange.specs.decoder.Decoder.{Pair, counter, residual, threshold, step}
use Rattle.exchange.specs.Fair.{draw, ran_out}
use Rattle.exchange.specs.Sampler.{sample, replaced}

pub record Examples : Type 0 where
  -- r = 5: (1+X)(1+X+X²) = 1+X³
  pub P1 : mul 5 (terms 5 (0 ∷ 1 ∷ [])) (terms 5 (0 ∷ 1 ∷ 2 ∷ [])) ≡ terms 5 (0 ∷ 3 ∷ [])
  -- the inverse of 1+X+X² is X+X²+X⁴
  pub P2 : IsInverse 5 (terms 5 (0 ∷ 1 ∷ 2 ∷ [])) (terms 5 (1 ∷ 2 ∷ 4 ∷ []))
      × (inverse_of 5 (terms 5 (0 ∷ 1 ∷ 2 ∷ [])) ≡ terms 5 (1 ∷ 2 ∷ 4 ∷ []))
  -- the inverse of X is X⁴
  pub P3 : IsInverse 5 (terms 5 (1 ∷ [])) (terms 5 (4 ∷ [])) × (inverse_of 5 (terms 5 (1 ∷ [])) ≡ terms 5 (4 ∷ []))
  -- 1+X has none, nor has 1+X+X²+X³+X⁴
  pub P4 : (has_inverse 5 (terms 5 (0 ∷ 1 ∷ [])) ≡ false) × (has_inverse 5 (terms 5 (0 ∷ 1 ∷ 2 ∷ 3 ∷ 4 ∷ [])) ≡ false)
  -- len 5, wt 2; the words are listed s_0 first
  pub P5 : sample 5 2 (0 ∷ 0 ∷ []) ≡ 1 ∷ 0 ∷ []
  pub P6 : sample 5 2 ((2 ^ 32 - 1) ∷ (2 ^ 32 - 1) ∷ []) ≡ 4 ∷ 0 ∷ []
  pub P7 : sample 5 2 ((2 ^ 31) ∷ (2 ^ 31) ∷ []) ≡ 3 ∷ 2 ∷ []
  pub P8 : sample 5 2 ((2 ^ 31) ∷ (2 ^ 30) ∷ []) ≡ 2 ∷ 0 ∷ []
  -- Level 1: S = 3366 gives 36, S = 3367 gives 37
  pub P9 : (threshold level1 3366 ≡ 36) × (threshold level1 3367 ≡ 37)
  -- Level 3: S = 7168 gives 52, S = 7169 gives 53
  pub P10 : (threshold level3 7168 ≡ 52) × (threshold level3 7169 ≡ 53)
  -- Level 1: S = 12323 gives 99, above d, so nothing flips: no round changes e, round 1 with its two more steps neither
  pub P11 : (threshold level1 12323 ≡ 99) × (level1.d < 99)
      × ((h : Pair) (s : Poly) (e : Pair) → weight level1.r h.half0 ≡ level1.d → weight level1.r h.half1 ≡ level1.d
      → weight level1.r (residual level1.r h s e) ≡ 12323 → (i : ℕ) → step level1 h s i e ≡ e)
  -- r = 7, h0 = 1+X+X³, residual the same: counters at 0, 1, 2 are 3, 1, 1
  pub P12 : (counter 7 (terms 7 (0 ∷ 1 ∷ 3 ∷ [])) (terms 7 (0 ∷ 1 ∷ 3 ∷ [])) 0 ≡ 3)
      × (counter 7 (terms 7 (0 ∷ 1 ∷ 3 ∷ [])) (terms 7 (0 ∷ 1 ∷ 3 ∷ [])) 1 ≡ 1)
      × (counter 7 (terms 7 (0 ∷ 1 ∷ 3 ∷ [])) (terms 7 (0 ∷ 1 ∷ 3 ∷ [])) 2 ≡ 1)

-- beside P9 and P10, Level 5: S = 13452 gives 69, S = 13453 gives 70
pub record Threshold5 : Type 0 where
  pub least : threshold level5 13452 ≡ 69
  pub above : threshold level5 13453 ≡ 70

-- how many positions P5 to P8 replace
pub record Counts : Type 0 where
  pub P5 : replaced 5 2 (0 ∷ 0 ∷ []) ≡ 0
  pub P6 : replaced 5 2 ((2 ^ 32 - 1) ∷ (2 ^ 32 - 1) ∷ []) ≡ 1
  pub P7 : replaced 5 2 ((2 ^ 31) ∷ (2 ^ 31) ∷ []) ≡ 0
  pub P8 : replaced 5 2 ((2 ^ 31) ∷ (2 ^ 30) ∷ []) ≡ 1

-- fair positions, r = 5, d = 2, mask 7: 6 is past r and the second 3 is listed, and 0 is not drawn; 11 is 3 too
pub record FairPositions : Type 0 where
  pub listed : draw 5 2 7 (6 ∷ 3 ∷ 3 ∷ 1 ∷ 0 ∷ []) ≡ record { positions = 3 ∷ 1 ∷ []; used = 4; passed = 2 }
  pub short : (ran_out 2 (draw 5 2 7 (3 ∷ 11 ∷ 6 ∷ [])) ≡ true) × ((draw 5 2 7 (3 ∷ 11 ∷ 6 ∷ [])).used ≡ 3)
