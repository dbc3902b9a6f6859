-- `choose` goes byte by byte: before turn i the first i bytes are there, of the one that the mask picks.
use mathlib.Core.Path.{refl}
use Prim.Native.Nat.{ℕ, ◌<◌}
use native.Mathlib.Omega.{arith}
use lib.ListN.{length, get_or, length-set}
use Rattle.hashing.proofs.Lists.{filled_none}
use Rattle.exchange.proofs.bytes.Laws.{copied_more, copied_all}
use Rattle.exchange.proofs.bytes.choose.Goals as goal

pub loop-i-init : goal.loop-i-init
loop-i-init c =
    let given = c.args in (
      omega arith,
      refl,
      (λ e. filled_none (λ (k : ℕ). get_or given.a.now k 0) given.out.now),
      (λ e. filled_none (λ (k : ℕ). get_or given.b.now k 0) given.out.now),
    )

pub loop-i-preserved : goal.loop-i-preserved
loop-i-preserved c =
    let was = c.loop-i in
    let given = c.args in
    let more : was.i < length given.out.now = omega arith in (
      omega arith,
      simp length-set was.invariant.1,
      (λ e. copied_more given.a.now given.out.now was.i more (c.pick.ensures.0 e) (was.invariant.2 e)),
      (λ e. copied_more given.b.now given.out.now was.i more (c.pick.ensures.1 e) (was.invariant.3 e)),
    )

pub returns : goal.returns
returns c =
    let was = c.loop-i in
    let given = c.args in (
      (λ e. copied_all given.a.now given.out.now was.i (omega arith) (omega arith) (was.invariant.2 e)),
      (λ e. copied_all given.b.now given.out.now was.i (omega arith) (omega arith) (was.invariant.3 e)),
    )
