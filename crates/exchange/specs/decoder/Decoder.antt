-- "Counter" and "BGF", over r, d, t and the level's threshold numbers. Assumes nothing.
use Rattle.std.specs.Prelude.{Bool, true, false, not, ◌&&◌, ℕ, zero, suc, ◌+◌, ◌-◌, ◌*◌, ◌/◌, ◌%◌, max, leb, ltb}
use Rattle.ring.specs.Levels.{Level, masked}
use Rattle.ring.specs.Polynomials.{Poly, both, add, mul, weight}

-- two polynomials: h0 and h1 of a private key, e0 and e1 of an error
pub record Pair : Type 0 where
  pub half0 : Poly
  pub half1 : Poly

-- "For bit j of e0: how many positions p of h0 have bit (j + p) mod r set in the residual. For e1, the same with h1"
unfoldable pub counter : ℕ → Poly → Poly → ℕ → ℕ
counter r h residual j = weight r (λ p. both (h p) (residual ((j + p) % r)))

-- "The residual is s + e0·h0 + e1·h1"
unfoldable pub residual : ℕ → Pair → Poly → Pair → Poly
residual r h s e = add s (add (mul r e.half0 h.half0) (mul r e.half1 h.half1))

-- "T the threshold": max(floor((slope·S + offset) / divisor), least), by the numbers of the level
unfoldable pub threshold : Level → ℕ → ℕ
threshold l S = max ((l.slope * S + l.offset) / l.divisor) l.least

-- e = 0
unfoldable pub nothing : Pair
nothing = record { half0 = λ k. false; half1 = λ k. false }

-- the bits below r of both halves whose counter passes a test, and those whose counter reaches a bound
unfoldable pub passing : ℕ → Pair → Poly → (ℕ → Bool) → Pair
passing r h res test =
    record {
      half0 = λ j. ltb j r && test (counter r h.half0 res j);
      half1 = λ j. ltb j r && test (counter r h.half1 res j);
    }

unfoldable pub reaching : ℕ → Pair → Poly → ℕ → Pair
reaching r h res bound = passing r h res (leb bound)

-- the bits of the first that the second has too, or that it has not
unfoldable pub among : Pair → Pair → Pair
among a b = record { half0 = λ j. a.half0 j && b.half0 j; half1 = λ j. a.half1 j && b.half1 j }

unfoldable pub without : Pair → Pair → Pair
without a b = record { half0 = λ j. a.half0 j && not (b.half0 j); half1 = λ j. a.half1 j && not (b.half1 j) }

unfoldable pub flipped : Pair → Pair → Pair
flipped e bits = record { half0 = add e.half0 bits.half0; half1 = add e.half1 bits.half1 }

module _ (l : Level) (h : Pair) (s : Poly) where
  -- "S is the residual's weight at the round's start, T the threshold"
  unfoldable pub bound_of : Pair → ℕ
  bound_of e = threshold l (weight l.r (residual l.r h s e))

  -- "All counters of a round are taken from the residual at its start. A bit with counter ≥ T is flipped and marked black"
  unfoldable pub black : Pair → Pair
  black e = reaching l.r h (residual l.r h s e) (bound_of e)

  -- "otherwise one with counter ≥ T − 3 is marked gray"
  unfoldable pub gray : Pair → Pair
  gray e = without (reaching l.r h (residual l.r h s e) (bound_of e - 3)) (black e)

  unfoldable pub round : Pair → Pair
  round e = flipped e (black e)

  -- "flip black bits with counter ≥ (d+1)/2 + 1, then gray bits likewise", "each with the residual worked out anew"
  unfoldable pub masked_step : Pair → Pair → Pair
  masked_step marks e = flipped e (among marks (reaching l.r h (residual l.r h s e) (masked l)))

  -- "In round 1 only, two more steps follow": round i + 1
  unfoldable pub step : ℕ → Pair → Pair
  step zero e = masked_step (gray e) (masked_step (black e) (round e))
  step (suc i) e = round e

-- "Start with e = 0"; the error after n rounds, of which `round i` is round i + 1
unfoldable pub after : (ℕ → Pair → Pair) → ℕ → Pair
after round zero = nothing
after round (suc n) = round n (after round n)

-- a decoder: from a private key and a syndrome the error after its last round
abbrev pub Decoder : Type 0
Decoder = Level → Pair → Poly → Pair

-- "five rounds"
unfoldable pub bgf : Decoder
bgf l h s = after (step l h s) 5

module _ (decoder : Decoder) (l : Level) (h : Pair) (s : Poly) where
  -- "After five rounds: residual 0 gives e, anything else is a failure"
  unfoldable pub failed : Bool
  failed = ltb 0 (weight l.r (residual l.r h s (decoder l h s)))

  -- opening's "On failure let e' = (0, 0)"
  unfoldable pub found : Pair
  found = elim failed [ true ↦ nothing | false ↦ decoder l h s ]
