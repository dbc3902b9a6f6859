-- `alternate` puts two spread halves between each other.
use mathlib.Core.Path.{◌≡◌, ap, ap₂, ◌∙◌}
use mathlib.Core.Bool.{false, ◌||◌, or-false}
use Prim.Native.Nat.{ℕ, zero, suc, ◌+◌, ◌*◌, ◌%◌, ◌^◌, ◌<◌}
use native.Mathlib.Omega.{arith}
use Rattle.hashing.specs.Lists.{bit_at}
use Rattle.hashing.proofs.Words.{bit-or}
use Rattle.ring.specs.inner.Even.{Blocks}
use Rattle.ring.proofs.even.Laws.{up_low, up_high}
use Rattle.ring.proofs.even.alternate.Goals as goal

-- of blocks of one bit
there_at : {y v : ℕ} → Blocks 1 32 y v → (k : ℕ) → k < 32 → bit_at v (k + k) ≡ bit_at y k
there_at {y} {v} blocks k below = ap (bit_at v) (omega arith) ∙ blocks.there k 0 below (omega arith) ∙ ap (bit_at y) (omega arith)

between_at : {y v : ℕ} → Blocks 1 32 y v → (k : ℕ) → k < 32 → bit_at v (k + k + 1) ≡ false
between_at {y} {v} blocks k below = ap (bit_at v) (omega arith) ∙ blocks.between k 0 below (omega arith)

-- one place further up the even places are free
up_even : {y v : ℕ} → Blocks 1 32 y v → (k : ℕ) → k < 32 → bit_at (v * 2 ^ 1 % 2 ^ 64) (k + k) ≡ false
up_even {y} {v} blocks zero below = up_low v 1 0 (omega arith) (omega arith)
up_even {y} {v} blocks (suc k) below =
    ap (bit_at (v * 2 ^ 1 % 2 ^ 64)) (omega arith) ∙ up_high v 1 (k + k + 1) (omega arith) ∙ between_at blocks k (omega arith)

pub returns : goal.returns
returns c =
    let first = c.even.ensures in
    let second = c.even-2.ensures in
    λ k below. (
      bit-or _ _ (k + k) ∙ ap₂ ◌||◌ (there_at first k below) (up_even second k below) ∙ or-false _,
      bit-or _ _ (k + k + 1) ∙ ap₂ ◌||◌ (between_at first k below) (up_high _ 1 (k + k) (omega arith) ∙ there_at second k below),
    )
