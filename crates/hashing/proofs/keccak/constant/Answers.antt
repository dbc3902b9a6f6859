-- `hashing::keccak::constant`: after j turns the constant has its first j bits, and the register is j steps on.
use mathlib.Core.Path.{◌≡◌}
use native.Mathlib.Omega.{arith}
use Rattle.hashing.specs.Keccak.{round_constant}
use Rattle.hashing.proofs.keccak.Registers.{no_step, more_steps, none_within, more_within, bit_fits, bit_below}
use Rattle.hashing.proofs.keccak.constant.Goals as goal

pub overflow_add-constant : goal.overflow_add-constant
overflow_add-constant c =
    let was = c.loop-j in
    rw c.placed-constant.ensures record { fits = bit_fits was.j was.register (omega arith) was.invariant.1 }

pub loop-j-preserved : goal.loop-j-preserved
loop-j-preserved c =
    let was = c.loop-j in
    rw c.placed-constant.ensures (
      omega arith,
      bit_below was.j was.register (omega arith) was.invariant.1,
      more_steps was.invariant.2 c.stepped-register.ensures,
      more_within was.j (omega arith) was.invariant.3 was.invariant.2,
    )

pub returns : goal.returns
unfolding round_constant
returns c =
    let last : c.loop-j.j ≡ 7 = omega arith in record { is = rw last at c.loop-j.invariant.3 }

pub loop-j-init : goal.loop-j-init
loop-j-init c = (omega arith, omega arith, no_step _ c.requires, none_within _)
