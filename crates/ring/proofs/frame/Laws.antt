-- Words of which none has a bit, and words that are cut at r. Assumes nothing.
use mathlib.Core.Path.{◌≡◌, sym, ap, ◌∙◌}
use mathlib.Core.Bool.{false}
use mathlib.Core.List.{List}
use Prim.Native.Nat.{ℕ, ◌+◌, ◌*◌, ◌/◌, ◌%◌, ◌^◌, ◌≤◌, ◌<◌}
use native.Mathlib.Nat.{mod-lt}
use native.Mathlib.Decide.{ℕ_discrete}
use native.Mathlib.Omega.{arith}
use lib.Bits.{bit_or, bit_and, or_add_and, and_le_l, and_le_r}
use lib.ListN.{length, get_or, set}
use lib.Pow.{pow_pos}
use Rattle.hashing.specs.Lists.{bit_at, bits}
use Rattle.hashing.proofs.Words.{bit-mod, bit_above}
use Rattle.ring.specs.Polynomials.{InRing}
use Rattle.ring.proofs.Packed.{bits_set_same, bits_set_other}

-- words of which none has a bit
pub or_none : (a b : ℕ) → bit_or a b ≡ 0 → (a ≡ 0) × (b ≡ 0)
or_none a b e =
    let whole : bit_or a b + bit_and a b ≡ a + b = or_add_and a b in
    let left : bit_and a b ≤ a = and_le_l a b in
    let right : bit_and a b ≤ b = and_le_r a b in
    (omega arith, omega arith)

-- the word of r taken modulo 2^(r mod 64): the bits below r stay, and from r on there are none
module _ (r : ℕ) (xs : List ℕ) (room : r / 64 < length xs) where
  abbrev pub last : ℕ
  last = get_or xs (r / 64) 0 % 2 ^ (r % 64)

  pub cut_in : InRing (64 * (r / 64 + 1)) (bits 64 xs)
      → InRing r (bits 64 (set xs (r / 64) last))
  cut_in none k past = go (ℕ_discrete (k / 64) (r / 64))
    where
      go : Dec (k / 64 ≡ r / 64) → bits 64 (set xs (r / 64) last) k ≡ false
      go (yes same) =
          bits_set_same xs (r / 64) last room k same
          ∙ bit_above last (r % 64) (k % 64) (mod-lt (get_or xs (r / 64) 0) (pow_pos (r % 64))) (omega arith)
      go (no other) = bits_set_other xs (r / 64) last k other ∙ none k (omega arith)

  pub cut_below : (k : ℕ) → k < r → bits 64 (set xs (r / 64) last) k ≡ bits 64 xs k
  unfolding bits
  cut_below k below = go (ℕ_discrete (k / 64) (r / 64))
    where
      go : Dec (k / 64 ≡ r / 64) → bits 64 (set xs (r / 64) last) k ≡ bits 64 xs k
      go (yes same) =
          bits_set_same xs (r / 64) last room k same
          ∙ bit-mod (get_or xs (r / 64) 0) (r % 64) (k % 64) (omega arith)
          ∙ ap (λ (i : ℕ). bit_at (get_or xs i 0) (k % 64)) (sym same)
      go (no other) = bits_set_other xs (r / 64) last k other
