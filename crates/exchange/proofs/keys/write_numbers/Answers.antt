-- `write_numbers` writes its list in order: before turn i the bytes of the first i numbers are there.
use mathlib.Core.Path.{refl}
use Prim.Native.Nat.{◌<◌}
use native.Mathlib.Omega.{arith}
use lib.ListN.{length, length-set}
use Rattle.exchange.proofs.keys.Laws.{two_more}
use Rattle.exchange.specs.Scheme.{two_bytes}
use Rattle.exchange.proofs.keys.write_numbers.Goals as goal

pub loop-i-init : goal.loop-i-init
unfolding two_bytes
loop-i-init c = (omega arith, refl, refl)

pub loop-i-preserved : goal.loop-i-preserved
loop-i-preserved c =
    let was = c.loop-i in
    let given = c.args in
    let more : was.i < length given.list.now = omega arith in (
      omega arith,
      simp length-set was.invariant.1,
      rw was.invariant.2 (two_more was.i given.list.now given.out.now more c.requires),
    )
