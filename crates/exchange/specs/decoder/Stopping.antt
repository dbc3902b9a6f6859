-- CR 7: how many rounds a decoder does that "ends after the first round that leaves residual 0, or at once if the syndrome is 0".
-- Its error and its answer need no definition: they are the full decoder's. Assumes nothing.
use Rattle.std.specs.Prelude.{Bool, ℕ, eqb}
use Rattle.ring.specs.Levels.{Level}
use Rattle.ring.specs.Polynomials.{Poly, weight, first_below}
use Rattle.exchange.specs.decoder.Decoder.{Pair, residual, step, after}

module _ (l : Level) (h : Pair) (s : Poly) where
  -- whether the residual is 0 after n rounds, of which round 1 has its two masked steps
  unfoldable pub gone : ℕ → Bool
  gone n = eqb (weight l.r (residual l.r h s (after (step l h s) n))) 0

  -- "the fewest after which the residual is 0, or 5 if it never is": the first of 0 to 5, and else the last of them
  unfoldable pub fewest : ℕ
  fewest = first_below 6 gone
