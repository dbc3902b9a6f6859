-- `rises`: what is still to come decides, unless a position so far did.
use mathlib.Core.Path.{◌≡◌}
use mathlib.Core.Bool.{◌&&◌}
use Prim.Native.Nat.{◌≤◌}
use lib.ListN.{length, drop}
use Rattle.exchange.specs.decoder.PrivateKey.{rising_from}
use Rattle.exchange.proofs.decoder.private_key.rises.Given as goal

abbrev pub invariant-loop-position : goal.invariant-loop-position
invariant-loop-position l = (l.position-index ≤ length l.h) × (l.good && rising_from l.r l.least (drop l.position-index l.h) ≡ rising_from l.r 0 l.h)
