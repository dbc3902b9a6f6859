-- `until_gone`: before turn i the error is that after i rounds, and none of fewer left no residual.
use mathlib.Core.Path.{◌≡◌}
use mathlib.Core.Bool.{false}
use Prim.Native.Nat.{ℕ, ◌≤◌, ◌<◌}
use Rattle.hashing.specs.Lists.{bits}
use Rattle.ring.specs.Levels.{Level, level_of}
use Rattle.ring.specs.Polynomials.{Poly, weight}
use Rattle.exchange.specs.declared.decoder.rounds
use Rattle.exchange.specs.decoder.Decoder.{Pair, step, after}
use Rattle.exchange.specs.decoder.Stopping.{gone}
use Rattle.exchange.specs.inner.Working.{key_of, pair_of, Carried}
use Rattle.exchange.proofs.decoder.early.until_gone.Given as goal

pub record Going (l : Level) (h : Pair) (s : Poly) (state : rounds.State.State) (left i : ℕ) : Type 0 where
  pub within : i ≤ 5
  pub carried : Carried l h s state
  pub error : pair_of state.e ≡ after (step l h s) i
  pub weighs : left ≡ weight l.r (bits 64 state.x)
  pub before : (j : ℕ) → j < i → gone l h s j ≡ false

abbrev pub invariant-loop-i : goal.invariant-loop-i
invariant-loop-i l = Going (level_of l.level) (key_of (level_of l.level) l.key) (bits 64 l.s) l.state l.left l.i
