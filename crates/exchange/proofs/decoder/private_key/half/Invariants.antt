-- `half`: before turn i the first i positions are read.
use mathlib.Core.Path.{◌≡◌}
use Prim.Native.Nat.{◌≤◌}
use lib.ListN.{length, take}
use Rattle.ring.specs.inner.Sizes.{most_d}
use Rattle.ring.specs.Bytes.{numbers}
use Rattle.exchange.proofs.decoder.private_key.half.Given as goal

abbrev pub invariant-loop-i : goal.invariant-loop-i
invariant-loop-i l = (l.i ≤ l.d) × (length l.h ≡ most_d) × (take l.i l.h ≡ numbers 2 l.i l.bytes)
