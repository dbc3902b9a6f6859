-- Blocks of bits that move apart. Assumes nothing.
use mathlib.Core.Path.{◌≡◌, refl, sym, ap, ◌∙◌}
use mathlib.Core.Bool.{Bool, true, false, ◌&&◌, ◌||◌, or-false, and-true, and-false}
use Prim.Native.Nat.{ℕ, zero, suc, ◌+◌, ◌-◌, ◌*◌, ◌/◌, ◌%◌, ◌^◌, ◌≤◌, ◌<◌}
use native.Mathlib.Decide.{ℕ_discrete}
use native.Mathlib.Nat.{add-mul, add-mul-mod_self_right, mod-eq_of_lt, mul-add, mul_comm, mul-one, mul-zero, mul-le-mul_left}
use native.Mathlib.Omega.{arith}
use borrow.Author.Tests.{lt-ltb, le-ltb}
use lib.Bits.{bit_and, bit_or}
use lib.Dec.{ltb}
use Rattle.hashing.specs.Lists.{tab, bit_at}
use Rattle.hashing.proofs.Lists.{get_or-tab, from_table}
use Rattle.hashing.proofs.Words.{bit-and, bit-or, bit-mod, bit_shl, bit_shl_below}
use Rattle.ring.specs.inner.Even.{Blocks}

-- a block and the zeros after it end within the word
room : (s n q : ℕ) → s * n ≡ 32 → q < n → s * q + s ≤ 32
room s n q size below =
    let next : q + 1 ≤ n = omega arith in omega (arith, mul-le-mul_left s next, mul-add s q 1, mul-one s, size)

all_set : (k : ℕ) → k < 32 → bit_at (2 ^ 32 - 1) k ≡ true
unfolding bit_at tab
all_set k below = sym (get_or-tab 32 (bit_at (2 ^ 32 - 1)) true k below) ∙ from_table 32 (λ k. true) true refl k below

-- the bits of a word that is moved up by s
pub up_low : (v s p : ℕ) → p < s → p < 64 → bit_at (v * 2 ^ s % 2 ^ 64) p ≡ false
up_low v s p low within = bit-mod (v * 2 ^ s) 64 p within ∙ bit_shl_below v s p low

pub up_high : (v s p : ℕ) → p + s < 64 → bit_at (v * 2 ^ s % 2 ^ 64) (p + s) ≡ bit_at v p
up_high v s p within = bit-mod (v * 2 ^ s) 64 (p + s) within ∙ bit_shl v s p

module _ (s n y v mask : ℕ) (size : s * (n + n) ≡ 32) (masks : Blocks s (n + n) (2 ^ 32 - 1) mask) (was : Blocks (s + s) n y v) where
  abbrev moved : ℕ
  moved = bit_and (bit_or v (v * 2 ^ s % 2 ^ 64)) mask

  abbrev both : ℕ → Bool
  both p = bit_at v p || bit_at (v * 2 ^ s % 2 ^ 64) p

  at : (p : ℕ) → bit_at moved p ≡ both p && bit_at mask p
  at p = bit-and (bit_or v (v * 2 ^ s % 2 ^ 64)) mask p ∙ ap (λ (b : Bool). b && bit_at mask p) (bit-or v (v * 2 ^ s % 2 ^ 64) p)

  kept : (q t : ℕ) → q < n + n → t < s → bit_at moved (s * q + s * q + t) ≡ both (s * q + s * q + t)
  kept q t below within =
      at _
      ∙ ap (λ (b : Bool). both (s * q + s * q + t) && b) (masks.there q t below within ∙ all_set (s * q + t) (omega (arith, room s (n + n) q size below)))
      ∙ and-true _

  -- the lower half of a block stays
  lower : (c t : ℕ) → c + c < n + n → t < s → bit_at moved (s * (c + c) + s * (c + c) + t) ≡ bit_at y (s * (c + c) + t)
  lower c t below within =
      kept (c + c) t below within ∙ rw (up c refl, or-false (bit_at v p)) here
    where
      p : ℕ
      p = s * (c + c) + s * (c + c) + t

      here : bit_at v p ≡ bit_at y (s * (c + c) + t)
      here =
          ap (bit_at v) (omega (arith, mul-add s c c, add-mul s s c)) ∙ was.there c t (omega arith) (omega arith)
          ∙ ap (bit_at y) (omega (arith, mul-add s c c, add-mul s s c))

      up : (d : ℕ) → d ≡ c → bit_at (v * 2 ^ s % 2 ^ 64) p ≡ false
      up zero same =
          let zero-sum : c + c ≡ 0 = omega arith in
          let none : s * (c + c) ≡ 0 = ap (λ (k : ℕ). s * k) zero-sum ∙ mul-zero s in
          up_low v s _ (omega arith) (omega (arith, room s (n + n) (c + c) size below))
      up (suc d) same =
          let sum : c + c ≡ d + d + 2 = omega arith in
          let twice : s * (c + c) ≡ s * d + s * d + s + s = ap (λ (k : ℕ). s * k) sum ∙ omega (arith, mul-add s (d + d) 2, mul-add s d d) in
          let under : ℕ = (s + s) * d + (s + s) * d + (s + s) + (s + t) in
          let from : p ≡ under + s = omega (arith, twice, add-mul s s d) in
          ap (bit_at (v * 2 ^ s % 2 ^ 64)) from ∙ up_high v s under (omega (arith, room s (n + n) (c + c) size below, from))
          ∙ was.between d (s + t) (omega arith) (omega arith)

  -- the upper half moves up
  upper : (c t : ℕ) → c + c + 1 < n + n → t < s → bit_at moved (s * (c + c + 1) + s * (c + c + 1) + t) ≡ bit_at y (s * (c + c + 1) + t)
  upper c t below within =
      kept (c + c + 1) t below within ∙ rw (ap (bit_at v) place ∙ was.between c t (omega arith) (omega arith))
      (ap (bit_at (v * 2 ^ s % 2 ^ 64)) from ∙ up_high v s _ (omega (arith, fits)) ∙ was.there c (s + t) (omega arith) (omega arith) ∙ ap (bit_at y) (omega (arith, whole, add-mul s s c)))
    where
      whole : s * (c + c + 1) ≡ s * c + s * c + s
      whole = omega (arith, mul-add s (c + c) 1, mul-add s c c, mul-one s)

      fits : (s + s) * c + (s + s) * c + (s + t) + s < 64
      fits = omega (arith, room s (n + n) (c + c + 1) size below, whole, add-mul s s c)

      place : s * (c + c + 1) + s * (c + c + 1) + t ≡ (s + s) * c + (s + s) * c + (s + s) + t
      place = omega (arith, whole, add-mul s s c)

      from : s * (c + c + 1) + s * (c + c + 1) + t ≡ (s + s) * c + (s + s) * c + (s + t) + s
      from = omega (arith, whole, add-mul s s c)

  apart_there : (q t : ℕ) → q < n + n → t < s → bit_at moved (s * q + s * q + t) ≡ bit_at y (s * q + t)
  apart_there q t below within = go (ℕ_discrete (q % 2) 0)
    where
      go : Dec (q % 2 ≡ 0) → bit_at moved (s * q + s * q + t) ≡ bit_at y (s * q + t)
      go (yes even) =
          let half : q / 2 + q / 2 ≡ q = omega arith in
          rw half at (lower (q / 2) t (omega arith) within)
      go (no odd) =
          let half : q / 2 + q / 2 + 1 ≡ q = omega arith in
          rw half at (upper (q / 2) t (omega arith) within)

  pub blocks_apart : Blocks s (n + n) y moved
  blocks_apart =
      record {
        there = apart_there;
        between = λ q t below within.
            at _ ∙ ap (λ (b : Bool). both (s * q + s * q + s + t) && b) (masks.between q t below within) ∙ and-false (both (s * q + s * q + s + t));
      }

-- a mask of blocks of ones, seen in a computed table
pub masks_of : (s n mask : ℕ) → s * n ≡ 32 → tab 64 (bit_at mask) ≡ tab 64 (λ p. ltb (p % (s + s)) s) → Blocks s n (2 ^ 32 - 1) mask
masks_of s n mask size table =
    record {
      there = λ q t below within.
          at q t below (omega arith) ∙ lt-ltb t s within ∙ sym (all_set (s * q + t) (omega (arith, room s n q size below)));
      between = λ q t below within.
          ap (bit_at mask) (omega arith) ∙ at q (s + t) below (omega arith) ∙ le-ltb (s + t) s (omega arith);
    }
  where
    at : (q t : ℕ) → q < n → t < s + s → bit_at mask (s * q + s * q + t) ≡ ltb t s
    at q t below within =
        let p : ℕ = s * q + s * q + t in
        let inside : p < 64 = omega (arith, room s n q size below) in
        let turns : p ≡ t + q * (s + s) = omega (arith, mul_comm q (s + s), add-mul s s q) in
        let rest : p % (s + s) ≡ t = ap (λ (k : ℕ). k % (s + s)) turns ∙ add-mul-mod_self_right t q (s + s) ∙ mod-eq_of_lt within in
        sym (get_or-tab 64 (bit_at mask) false p inside) ∙ from_table 64 (λ p. ltb (p % (s + s)) s) false table p inside ∙ ap (λ (k : ℕ). ltb k s) rest
