-- How `keccak` works out round constants and rotation offsets: the contracts of its inner functions. Assumes nothing.
use Rattle.std.specs.Prelude.{◌≡◌, List, ℕ, ◌+◌, ◌*◌, ◌/◌, ◌%◌, ◌^◌, ◌<◌}
use Rattle.std.specs.Int.Bits.{bit_xor}
use Rattle.hashing.specs.declared.keccak.Walk.{Walk}
use Rattle.hashing.specs.Keccak.{register, round_constant, walk, offset_within}
use Rattle.hashing.specs.Lists.{tab}

-- the register R that a number stands for: R[i] is its bit i
unfoldable pub digits : ℕ → List ℕ
digits r = tab 8 (λ i. r / 2 ^ i % 2)

-- FIPS 202, 3.2.5, algorithm 5, step 3 on such a number: 2r is a's longer register, whose R[8] is added at 0, 4, 5, 6
unfoldable pub fed_back : ℕ → ℕ → ℕ
fed_back long last = bit_xor (bit_xor (bit_xor (bit_xor long last) (last * 2 ^ 4)) (last * 2 ^ 5)) (last * 2 ^ 6) % 256

unfoldable pub next : ℕ → ℕ
next r = fed_back (2 * r) (2 * r / 256)

-- `after` is what n more steps make of the register `before`
pub record Steps (n before after : ℕ) : Type 0 where
  pub within : after < 256
  pub goes_on : (t : ℕ) → digits before ≡ register t → digits after ≡ register (t + n)

-- `r` is the register with which round i begins
pub record Begins (i r : ℕ) : Type 0 where
  pub within : r < 256
  pub begins : digits r ≡ register (7 * i)

-- `constant` is that of the round which begins with this register
pub record ConstantOf (begins constant : ℕ) : Type 0 where
  pub is : (i : ℕ) → i < 24 → digits begins ≡ register (7 * i) → constant ≡ round_constant i

-- 3.2.2: the walk stands where its step t does, and has turned the lane at `place` as its steps before t do
pub record Stands (place : ℕ) (at : Walk) : Type 0 where
  pub x : at.x ≡ (walk at.t).x
  pub y : at.y ≡ (walk at.t).y
  pub x_within : at.x < 5
  pub y_within : at.y < 5
  pub turned : at.turn ≡ offset_within at.t (place % 5) (place / 5)

-- `after` is the walk n steps on
pub record Goes (n place : ℕ) (before after : Walk) : Type 0 where
  pub later : after.t ≡ before.t + n
  pub stands : Stands place after
