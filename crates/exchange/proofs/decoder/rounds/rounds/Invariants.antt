-- `rounds`: before turn i the error is that after i rounds, and its residual goes with it.
use mathlib.Core.Path.{◌≡◌}
use Prim.Native.Nat.{◌≤◌}
use Rattle.hashing.specs.Lists.{bits}
use Rattle.ring.specs.Levels.{level_of}
use Rattle.exchange.specs.decoder.Decoder.{step, after}
use Rattle.exchange.specs.inner.Working.{key_of, pair_of, Carried}
use Rattle.exchange.proofs.decoder.rounds.rounds.Given as goal

abbrev pub invariant-loop-i : goal.invariant-loop-i
invariant-loop-i l =
    (l.i ≤ 5) × Carried (level_of l.level) (key_of (level_of l.level) l.key) (bits 64 l.s) l.st
    × (pair_of l.st.e ≡ after (step (level_of l.level) (key_of (level_of l.level) l.key) (bits 64 l.s)) l.i)
