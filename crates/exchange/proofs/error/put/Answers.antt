-- `put` sets one bit.
use Prim.Native.Nat.{◌/◌, ◌%◌}
use native.Mathlib.Nat.{one-mul, div-add-mod'}
use native.Mathlib.Omega.{arith}
use lib.Pow.{shl_exact}
use Rattle.exchange.proofs.error.Laws.{bits-set}
use Rattle.exchange.proofs.error.put.Goals as goal

pub returns : goal.returns
returns c =
    let given = c.args in
    let p = given.position in
    rw (
      shl_exact {a = 1} 1 (p % 64) 64 (omega arith) (omega arith),
      one-mul,
      bits-set 64 given.out.now (p / 64) (p % 64) (omega arith) (omega arith),
      div-add-mod' p 64,
    )
