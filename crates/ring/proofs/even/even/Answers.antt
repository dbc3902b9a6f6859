-- `even` halves the blocks five times.
use mathlib.Core.Path.{◌≡◌, refl, ap}
use Prim.Native.Nat.{ℕ, ◌*◌, ◌^◌, ◌<◌}
use native.Mathlib.Omega.{arith}
use Rattle.hashing.specs.Lists.{tab, bit_at}
use Rattle.hashing.proofs.Words.{bit_above}
use Rattle.ring.specs.inner.Even.{Blocks}
use Rattle.ring.proofs.even.Laws.{masks_of}
use Rattle.ring.proofs.even.even.Goals as goal

-- at first there is one block
whole : (y : ℕ) → y < 2 ^ 32 → Blocks 32 1 y y
whole y small =
    record {
      there = λ q t below within. let none : 32 * q ≡ 0 = omega arith in ap (bit_at y) (omega arith);
      between = λ q t below within. bit_above y 32 _ small (omega arith);
    }

pub returns : goal.returns
unfolding bit_at tab
returns c =
    let y = c.args.y in
    c.apart.ensures y 16 refl (masks_of 1 32 0x5555555555555555 refl refl)
    (c.apart-sixteen.ensures y 8 refl (masks_of 2 16 0x3333333333333333 refl refl)
    (c.apart-eight.ensures y 4 refl (masks_of 4 8 0x0f0f0f0f0f0f0f0f refl refl)
    (c.apart-four.ensures y 2 refl (masks_of 8 4 0x00ff00ff00ff00ff refl refl)
    (c.apart-two.ensures y 1 refl (masks_of 16 2 0x0000ffff0000ffff refl refl) (whole y c.requires)))))
