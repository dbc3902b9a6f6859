-- `pad_set` reads the last byte; where 8 divides r there is none at r div 8, and no pad.
use mathlib.Core.Path.{◌≡◌, refl}
use Prim.Native.Nat.{◌/◌, ◌%◌}
use native.Mathlib.Omega.{arith}
use lib.ListN.{get_or-eq_default}
use Rattle.ring.specs.Bytes.{pad_set}
use Rattle.ring.proofs.layout.pad_set.Goals as goal

pub returns-then-r-eq0 : goal.returns-then-r-eq0
unfolding pad_set
returns-then-r-eq0 c =
    let r = c.args.r in
    let bytes = c.args.bytes.now in
    let even : r % 8 ≡ 0 = c.if-r-eq0.true in
    rw (pad_set, get_or-eq_default bytes 0 {n = r / 8} (omega arith), even)

pub returns : goal.returns
unfolding pad_set
returns c = refl
