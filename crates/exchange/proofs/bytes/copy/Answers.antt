-- `copy` copies byte by byte: before turn i the first i bytes are there.
use mathlib.Core.Path.{refl}
use Prim.Native.Nat.{ℕ, ◌<◌}
use native.Mathlib.Omega.{arith}
use lib.ListN.{length, get_or, length-set}
use Rattle.hashing.proofs.Lists.{filled_none}
use Rattle.exchange.proofs.bytes.Laws.{copied_more, copied_all}
use Rattle.exchange.proofs.bytes.copy.Goals as goal

pub loop-i-preserved : goal.loop-i-preserved
loop-i-preserved c =
    let was = c.loop-i in
    let given = c.args in
    let more : was.i < length given.out.now = omega arith in
    (omega arith, simp length-set was.invariant.1, copied_more given.from.now given.out.now was.i more refl was.invariant.2)

pub returns : goal.returns
returns c =
    let was = c.loop-i in
    let given = c.args in
    copied_all given.from.now given.out.now was.i (omega arith) c.requires was.invariant.2

pub loop-i-init : goal.loop-i-init
loop-i-init c = (omega arith, refl, filled_none (λ (k : ℕ). get_or c.args.from.now k 0) c.args.out.now)
