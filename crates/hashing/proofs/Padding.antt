-- The padding in bytes is FIPS 202's: M's bits, the suffix, and pad10*1 of section 5.1. Assumes nothing.
use mathlib.Core.Bool.{Bool, true, false}
use mathlib.Core.Path.{◌≡◌, refl, sym, ap, ◌∙◌}
use mathlib.Core.List.{List, [], ◌∷◌, ◌++◌, append-nil, append_assoc}
use Prim.Native.Nat.{ℕ, zero, suc, ◌+◌, ◌-◌, ◌*◌, ◌/◌, ◌%◌, ◌≤◌, ◌<◌}
use native.Mathlib.Nat.{zero-add, sub-zero, mul_left_comm, mod-lt, mod-eq_of_lt, mod_self, div-add-mod', mul-add-mod_self_right}
use native.Mathlib.Decide.{dec_lt}
use native.Mathlib.Omega.{arith}
use lib.Arith.{digits_mod}
use lib.ListN.{length, replicate, length-append, replicate-append-replicate}
use Rattle.hashing.specs.Kmac.{cshake_suffix}
use Rattle.hashing.specs.Lists.{tab, bit_at}
use Rattle.hashing.specs.Sponge.{padding, padded, bits_of, pad10*1, shake_suffix, sha3_suffix}

bits_of-append : (M N : List ℕ) → bits_of (M ++ N) ≡ bits_of M ++ bits_of N
unfolding bits_of
bits_of-append [] N = refl
bits_of-append (b ∷ M) N = ap (λ (l : List Bool). tab 8 (bit_at b) ++ l) (bits_of-append M N) ∙ sym (append_assoc (tab 8 (bit_at b)) (bits_of M) (bits_of N))

length-bits_of : (M : List ℕ) → length (bits_of M) ≡ 8 * length M
unfolding bits_of tab
length-bits_of [] = refl
length-bits_of (b ∷ M) = length-append (tab 8 (bit_at b)) (bits_of M) ∙ omega (arith, length-bits_of M)

bits_of-zeros : (q : ℕ) → bits_of (replicate q 0) ≡ replicate (8 * q) false
unfolding bits_of tab bit_at
bits_of-zeros zero = refl
bits_of-zeros (suc q) =
    let more : 8 * suc q ≡ 8 + 8 * q = omega arith in
    rw (more, ← replicate-append-replicate 8 (8 * q) false) (ap (λ (l : List Bool). replicate 8 false ++ l) (bits_of-zeros q))

last : tab 8 (bit_at 128) ≡ replicate 7 false ++ (true ∷ [])
unfolding tab bit_at
last = refl

-- three runs of zeros are one
runs : (s : List Bool) (a b c : ℕ)
    → (s ++ (true ∷ replicate a false)) ++ (replicate b false ++ (replicate c false ++ (true ∷ [])))
    ≡ s ++ (true ∷ (replicate (a + (b + c)) false ++ (true ∷ [])))
runs s a b c = rw (← replicate-append-replicate a (b + c) false, ← replicate-append-replicate b c false) (simp append_assoc)

-- the number of zeros between the padding's two ones, for m bytes and a suffix of s bits
zeros : (rate m s : ℕ) → 0 < rate → s ≤ 6
    → 8 * (rate - 1 - m % rate) + (6 - s) ≡ (8 * rate - (8 * m + s + 2) % (8 * rate)) % (8 * rate)
zeros rate m s pos few = go (dec_lt (8 * (m % rate) + s + 2) (8 * rate))
  where
    within : m % rate < rate
    within = mod-lt m pos

    size : 8 * m + s + 2 ≡ m / rate * (8 * rate) + (8 * (m % rate) + s + 2)
    size = rw (mul_left_comm (m / rate) 8 rate) (omega (arith, div-add-mod' m rate))

    go : Dec (8 * (m % rate) + s + 2 < 8 * rate)
        → 8 * (rate - 1 - m % rate) + (6 - s) ≡ (8 * rate - (8 * m + s + 2) % (8 * rate)) % (8 * rate)
    go (yes below) =
        let less : 8 * rate - (8 * (m % rate) + s + 2) < 8 * rate = omega arith in
        rw (size, digits_mod (m / rate) below, mod-eq_of_lt less) (omega (arith, within))
    go (no reached) =
        let whole : 8 * (m % rate) + s + 2 ≡ 8 * rate = omega (arith, within) in
        rw (size, whole, mul-add-mod_self_right (m / rate) (8 * rate) (8 * rate), mod_self, sub-zero, mod_self) (omega (arith, within))

-- A suffix of at most six bits, and its byte: these bits and the padding's first 1, alone or with the padding's last bit.
module _ (suffix : List Bool) (byte : ℕ) (few : length suffix ≤ 6)
    (opens : tab 8 (bit_at byte) ≡ suffix ++ (true ∷ replicate (7 - length suffix) false))
    (closes : tab 8 (bit_at (byte + 128)) ≡ suffix ++ (true ∷ (replicate (6 - length suffix) false ++ (true ∷ [])))) where
  padding-bits : (q : ℕ) → bits_of (padding byte (suc q)) ≡ suffix ++ (true ∷ (replicate (8 * q + (6 - length suffix)) false ++ (true ∷ [])))
  unfolding padding bits_of
  padding-bits zero = rw (append-nil, zero-add) closes
  padding-bits (suc q) =
      let all : 8 * suc q + (6 - length suffix) ≡ 7 - length suffix + (8 * q + 7) = omega arith in
      rw (bits_of-append (replicate q 0) (128 ∷ []), bits_of-zeros q, opens, last, all) (runs suffix (7 - length suffix) (8 * q) 7)

  pub padded-bits : (rate : ℕ) → 0 < rate → (M : List ℕ) → bits_of (padded rate byte M)
      ≡ (bits_of M ++ suffix) ++ pad10*1 (8 * rate) (length (bits_of M ++ suffix))
  unfolding padded pad10*1
  padded-bits rate pos M =
      let open' : rate - length M % rate ≡ suc (rate - 1 - length M % rate) = omega (arith, mod-lt (length M) pos) in
      rw (length-append (bits_of M) suffix, length-bits_of M, ← zeros rate (length M) (length suffix) pos few, bits_of-append, open', padding-bits (rate - 1 - length M % rate))
      (sym (append_assoc (bits_of M) suffix _))

pub shake256-padding : (M : List ℕ) → bits_of (padded 136 0x1f M)
    ≡ (bits_of M ++ shake_suffix) ++ pad10*1 1088 (length (bits_of M ++ shake_suffix))
unfolding shake_suffix tab bit_at
shake256-padding = padded-bits shake_suffix 0x1f (omega arith) refl refl 136 (omega arith)

pub sha3_384-padding : (M : List ℕ) → bits_of (padded 104 0x06 M)
    ≡ (bits_of M ++ sha3_suffix) ++ pad10*1 832 (length (bits_of M ++ sha3_suffix))
unfolding sha3_suffix tab bit_at
sha3_384-padding = padded-bits sha3_suffix 0x06 (omega arith) refl refl 104 (omega arith)

pub kmac256-padding : (M : List ℕ) → bits_of (padded 136 0x04 M)
    ≡ (bits_of M ++ cshake_suffix) ++ pad10*1 1088 (length (bits_of M ++ cshake_suffix))
unfolding cshake_suffix tab bit_at
kmac256-padding = padded-bits cshake_suffix 0x04 (omega arith) refl refl 136 (omega arith)
