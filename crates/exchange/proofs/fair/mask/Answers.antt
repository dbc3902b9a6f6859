-- `mask` has as many bits as a position.
use mathlib.Core.Path.{◌≡◌, ap, ◌∙◌}
use Prim.Native.Nat.{ℕ, ◌-◌, ◌*◌, ◌%◌, ◌^◌}
use native.Mathlib.Nat.{one-mul}
use native.Mathlib.Omega.{arith}
use lib.Pow.{pow_pos, shl_exact}
use Rattle.ring.proofs.Levels.{width}
use Rattle.exchange.specs.Fair.{mask_of}
use Rattle.exchange.proofs.fair.mask.Goals as goal
use Rattle.exchange.proofs.fair.mask.Goals.{After-position_bits}

-- the shift keeps its bit
shifted : (c : After-position_bits) → 1 * 2 ^ c.position_bits.result % 2 ^ 32 ≡ 2 ^ c.position_bits.result
shifted c =
    shl_exact {a = 1} 1 c.position_bits.result 32 (omega arith) (omega (arith, c.position_bits.ensures, (width c.args.level).most))
    ∙ one-mul (2 ^ c.position_bits.result)

pub returns : goal.returns
unfolding mask_of
returns c = ap (λ (n : ℕ). n - 1) (shifted (goal.at.returns c).After-position_bits ∙ ap (◌^◌ 2) c.position_bits.ensures)

pub overflow_cast-result : goal.overflow_cast-result
overflow_cast-result c = omega (arith, c.position_bits.ensures, (width c.args.level).most)

pub overflow_shl-result : goal.overflow_shl-result
overflow_shl-result c = omega (arith, c.position_bits.ensures, (width c.args.level).most)

pub overflow_sub-result : goal.overflow_sub-result
overflow_sub-result c = rw (shifted (goal.at.overflow_sub-result c).After-position_bits) (pow_pos c.position_bits.result)
