-- Bytes that go into a lane or out of it at once: the contracts of `lanes`. Assumes nothing.
use Rattle.std.specs.Prelude.{◌≡◌, List, ◌++◌, ◌⊎◌, ℕ, zero, suc, ◌+◌, ◌*◌, ◌^◌, length, take, drop}
use Rattle.std.specs.Int.Bits.{bit_xor}

-- the first n bytes of b, as they stand in a lane from its byte k on
unfoldable pub lane_of : ℕ → ℕ → (ℕ → ℕ) → ℕ
lane_of k zero b = 0
lane_of k (suc n) b = bit_xor (lane_of k n b) (b n * 2 ^ (8 * (k + n)))

-- from byte k of a lane on, one byte, or all eight of the lane
abbrev pub AtOnce : ℕ → ℕ → Type 0
AtOnce k n = (n ≡ 1) ⊎ ((k ≡ 0) × (n ≡ 8))

-- the old bytes, with the new ones from place i on
unfoldable pub overwritten : ℕ → List ℕ → List ℕ → List ℕ
overwritten i new old = take i old ++ new ++ drop (i + length new) old
