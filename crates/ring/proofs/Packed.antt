-- Lists of words as bits: zeros, a word that is stored, and a list that is filled word by word. Assumes nothing.
use mathlib.Core.Path.{◌≡◌, refl, sym, ap, ap₂, fun_ext, ◌∙◌}
use mathlib.Core.Bool.{Bool, false}
use mathlib.Core.List.{List}
use Prim.Native.Nat.{ℕ, suc, ◌+◌, ◌*◌, ◌/◌, ◌%◌, ◌^◌, ◌≤◌, ◌<◌}
use native.Mathlib.Decide.{dec_lt, ℕ_discrete}
use native.Mathlib.Omega.{arith}
use lib.Bits.{bit_xor}
use lib.ListN.{length, get_or, set, replicate, length-replicate, get_or-replicate, get_or-eq_default}
use lib.Pow.{pow_pos}
use lib.Seq.{get_or-set_same, get_or-set_other}
use Rattle.ring.proofs.Parity.{xor-flip}
use Rattle.hashing.specs.Lists.{bit_at, bits}
use Rattle.hashing.proofs.Words.{bit-xor, bit_zero, bit_ext, bits_at}
use Rattle.ring.specs.Polynomials.{Poly, flip, parity}

pub bit-flip : (x y k : ℕ) → bit_at (bit_xor x y) k ≡ flip (bit_at x k) (bit_at y k)
bit-flip x y k = bit-xor x y k ∙ xor-flip (bit_at x k) (bit_at y k)

-- the sum of n words, one after another, where bit e of word m is f m e
pub record Sum (f : ℕ → ℕ → Bool) (n s : ℕ) : Type 0 where
  pub bit : (e : ℕ) → e < 64 → bit_at s e ≡ parity n (λ m. f m e)

-- a word that is another one has its bits
pub bits_same : {x y : ℕ} → x ≡ y → (e : ℕ) → e < 64 → bit_at x e ≡ bit_at y e
bits_same is e below = ap (λ (z : ℕ). bit_at z e) is

module _ (f : ℕ → ℕ → Bool) where
  pub sum_one : {y : ℕ} → ((e : ℕ) → e < 64 → bit_at y e ≡ f 0 e) → Sum f 1 y
  unfolding parity
  sum_one h = record { bit = h }

  pub sum_more : {n s : ℕ} (y : ℕ) → Sum f n s → ((e : ℕ) → e < 64 → bit_at y e ≡ f n e) → Sum f (suc n) (bit_xor s y)
  unfolding parity
  sum_more {n} {s} y before h = record { bit = λ e below. bit-flip s y e ∙ ap₂ flip (before.bit e below) (h e below) }

-- a list has no bit set where its elements are 0, and its elements are 0 where it has none
pub bits_none : (xs : List ℕ) → ((i : ℕ) → i < length xs → get_or xs i 0 ≡ 0) → bits 64 xs ≡ (λ k. false)
unfolding bits
bits_none xs none = fun_ext (λ k. rw (element (k / 64) (dec_lt (k / 64) (length xs))) (bit_zero (k % 64)))
  where
    element : (i : ℕ) → Dec (i < length xs) → get_or xs i 0 ≡ 0
    element i (yes below) = none i below
    element i (no past) = get_or-eq_default xs 0 {n = i} (omega arith)

pub none-bits : (xs : List ℕ) (i : ℕ) → get_or xs i 0 < 2 ^ 64 → bits 64 xs ≡ (λ k. false) → get_or xs i 0 ≡ 0
none-bits xs i small none =
    bit_ext 64 small (pow_pos 64)
    (λ e below. sym (bits_at 64 xs i e refl below) ∙ ap (λ (p : Poly). p (64 * i + e)) none ∙ sym (bit_zero e))

pub bits-zeros : (n : ℕ) → bits 64 (replicate n 0) ≡ (λ k. false)
bits-zeros n =
    bits_none (replicate n 0) (λ i below. get_or-replicate n i 0 0 (rw (length-replicate {A = ℕ} n 0) at below))

module _ (xs : List ℕ) (i v : ℕ) where
  pub bits_set_same : i < length xs → (k : ℕ) → k / 64 ≡ i → bits 64 (set xs i v) k ≡ bit_at v (k % 64)
  unfolding bits
  bits_set_same room k same = rw same (ap (λ (x : ℕ). bit_at x (k % 64)) (get_or-set_same xs i v 0 room))

  pub bits_set_other : (k : ℕ) → (k / 64 ≡ i → ⊥) → bits 64 (set xs i v) k ≡ bits 64 xs k
  unfolding bits
  bits_set_other k other = ap (λ (x : ℕ). bit_at x (k % 64)) (get_or-set_other xs i (k / 64) v 0 other)

  -- the words below i are right; with word i those below i + 1 are
  pub fill_below : (P : ℕ → Bool) → i < length xs → ((k : ℕ) → k < 64 * i → bits 64 xs k ≡ P k)
      → ((e : ℕ) → e < 64 → bit_at v e ≡ P (64 * i + e)) → (k : ℕ) → k < 64 * (i + 1) → bits 64 (set xs i v) k ≡ P k
  fill_below P room before word k below = go (ℕ_discrete (k / 64) i)
    where
      go : Dec (k / 64 ≡ i) → bits 64 (set xs i v) k ≡ P k
      go (yes same) =
          let place : 64 * i + k % 64 ≡ k = omega arith in
          bits_set_same room k same ∙ word (k % 64) (omega arith) ∙ ap P place
      go (no other) = bits_set_other k other ∙ before k (omega arith)

  -- and those above it stay as they are
  pub fill_above : (Q : ℕ → Bool) → ((k : ℕ) → 64 * i ≤ k → bits 64 xs k ≡ Q k)
      → (k : ℕ) → 64 * (i + 1) ≤ k → bits 64 (set xs i v) k ≡ Q k
  fill_above Q after k past = bits_set_other k (λ e. omega arith) ∙ after k (omega arith)
