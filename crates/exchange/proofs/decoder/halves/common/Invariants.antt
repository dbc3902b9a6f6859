-- `common`: i words are done.
use mathlib.Core.Bool.{◌&&◌}
use Prim.Native.Nat.{◌≤◌}
use Rattle.hashing.specs.Lists.{bits}
use Rattle.ring.proofs.words.Laws.{Done}
use Rattle.exchange.proofs.decoder.halves.common.Given as goal

abbrev pub invariant-loop-i : goal.invariant-loop-i
invariant-loop-i l = (l.i ≤ l.n) × Done (λ j. bits 64 l.a j && bits 64 l.b j) l.i l.c
