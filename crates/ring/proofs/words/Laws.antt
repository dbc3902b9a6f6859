-- Laws of polynomials in words. Assumes nothing.
use mathlib.Core.Path.{◌≡◌, refl, sym, ap, ap₂, ◌∙◌, fun_ext}
use mathlib.Core.Bool.{Bool, false, ◌||◌, or-false}
use mathlib.Core.List.{List, [], ◌∷◌}
use mathlib.Core.Logic.{◌⊎◌, inl, inr}
use Prim.Native.Nat.{ℕ, zero, suc, ◌+◌, ◌-◌, ◌*◌, ◌/◌, ◌%◌, ◌^◌, ◌≤◌, ◌<◌}
use native.Mathlib.Nat.{not-suc-le-zero, add_comm, mod-lt}
use native.Mathlib.Decide.{dec_lt}
use native.Mathlib.Omega.{arith}
use borrow.Author.Count.{below_more}
use lib.Bits.{bit_or}
use lib.Count.{ones}
use lib.Dec.{lit<}
use lib.ListN.{length, get_or, set, replicate, length-set}
use lib.Pow.{pow_pos}
use lib.Seq.{get_or-set_same, get_or-set_other}
use Rattle.hashing.specs.Lists.{bit_at, bits}
use Rattle.hashing.proofs.Words.{bit-or, bit-mod, bit_shl, bit_shl_below, bit_shr, bit_above, bit_zero, bits_at, bits_by, bits_out, zero_at}
use Rattle.ring.specs.Bytes.{number}
use Rattle.ring.specs.Polynomials.{weight, Poly, InRing}
use Rattle.ring.specs.inner.Wide.{shifted, Outside}
use Rattle.ring.specs.inner.Sizes.{words}
use Rattle.ring.proofs.Binary.{number_of}
use Rattle.ring.proofs.Weights.{weight_ext, weight-add, weight_word}
use Rattle.ring.proofs.Shifts.{shifted_below, shifted_from}

pub funnelled : (low high s e : ℕ) → low < 2 ^ 64 → s ≤ 64 → e < 64
    → bit_at (bit_or (high * 2 ^ s % 2 ^ 64) (low / 2 ^ (64 - s))) e ≡ bits 64 (low ∷ high ∷ []) (64 - s + e)
funnelled low high s e small less he =
    bit-or (high * 2 ^ s % 2 ^ 64) (low / 2 ^ (64 - s)) e
    ∙ ap₂ ◌||◌ (bit-mod (high * 2 ^ s) 64 e he) (bit_shr low (64 - s) e) ∙ go (dec_lt e s)
  where
    go : Dec (e < s) → bit_at (high * 2 ^ s) e || bit_at low (e + (64 - s)) ≡ bits 64 (low ∷ high ∷ []) (64 - s + e)
    go (yes below) =
        ap₂ ◌||◌ (bit_shl_below high s e below) (ap (bit_at low) (add_comm e (64 - s)))
        ∙ sym (bits_at 64 (low ∷ high ∷ []) 0 (64 - s + e) (omega arith) (omega arith))
    go (no above) =
        let back : e ≡ e - s + s = omega arith in
        ap₂ ◌||◌ (ap (bit_at (high * 2 ^ s)) back ∙ bit_shl high s (e - s))
        (bit_above low 64 (e + (64 - s)) small (omega arith))
        ∙ or-false (bit_at high (e - s)) ∙ sym (bits_at 64 (low ∷ high ∷ []) 1 (e - s) (omega arith) (omega arith))

-- what a funnel finds in a list that is taken word by word, with 0 before it
pub carried : (x : List ℕ) (s i e : ℕ) → s ≤ 64 → e < 64
    → bits 64 (get_or (0 ∷ x) i 0 ∷ get_or x i 0 ∷ []) (64 - s + e) ≡ shifted s (bits 64 x) (64 * i + e)
carried x s i e hs he = go (dec_lt e s) i
  where
    go : Dec (e < s) → (i : ℕ) → bits 64 (get_or (0 ∷ x) i 0 ∷ get_or x i 0 ∷ []) (64 - s + e) ≡ shifted s (bits 64 x) (64 * i + e)
    go (yes below) zero =
        bits_at 64 (0 ∷ get_or x 0 0 ∷ []) 0 (64 - s + e) (omega arith) (omega arith) ∙ bit_zero (64 - s + e)
        ∙ sym (shifted_below s (bits 64 x) (64 * 0 + e) (omega arith))
    go (yes below) (suc j) =
        bits_at 64 (get_or x j 0 ∷ get_or x (suc j) 0 ∷ []) 0 (64 - s + e) (omega arith) (omega arith)
        ∙ sym (shifted_from s (bits 64 x) (64 * suc j + e) (omega arith) ∙ bits_at 64 x j (64 - s + e) (omega arith) (omega arith))
    go (no above) i =
        bits_at 64 (get_or (0 ∷ x) i 0 ∷ get_or x i 0 ∷ []) 1 (e - s) (omega arith) (omega arith)
        ∙ sym (shifted_from s (bits 64 x) (64 * i + e) (omega arith) ∙ bits_at 64 x i (e - s) (omega arith) (omega arith))

-- and in a list, two words of it
pub two_words : (x : List ℕ) (i e : ℕ) → e < 128 → bits 64 (get_or x i 0 ∷ get_or x (i + 1) 0 ∷ []) e ≡ bits 64 x (64 * i + e)
two_words x i e h = go (dec_lt e 64)
  where
    go : Dec (e < 64) → bits 64 (get_or x i 0 ∷ get_or x (i + 1) 0 ∷ []) e ≡ bits 64 x (64 * i + e)
    go (yes low) = bits_at 64 (get_or x i 0 ∷ get_or x (i + 1) 0 ∷ []) 0 e (omega arith) low ∙ sym (bits_at 64 x i e refl low)
    go (no high) =
        bits_at 64 (get_or x i 0 ∷ get_or x (i + 1) 0 ∷ []) 1 (e - 64) (omega arith) (omega arith)
        ∙ sym (bits_at 64 x (i + 1) (e - 64) (omega arith) (omega arith))

-- a polynomial of r / 64 + 1 words is cut off at r, by m = 1 << r % 64
module _ (y : List ℕ) (r m : ℕ) (mask : m ≡ 2 ^ (r % 64)) (room : r / 64 < length y) (inside : InRing (64 * (r / 64 + 1)) (bits 64 y)) where
  last : (k : ℕ) → k / 64 ≡ r / 64 → bits 64 (set y (r / 64) (get_or y (r / 64) 0 % m)) k ≡ bit_at (get_or y (r / 64) 0 % 2 ^ (r % 64)) (k % 64)
  last k h =
      bits_at 64 (set y (r / 64) (get_or y (r / 64) 0 % m)) (r / 64) (k % 64) (omega arith) (omega arith)
      ∙ ap (λ (x : ℕ). bit_at x (k % 64))
      (get_or-set_same y (r / 64) (get_or y (r / 64) 0 % m) 0 room ∙ ap (λ (m : ℕ). get_or y (r / 64) 0 % m) mask)

  other : (k : ℕ) → (k / 64 ≡ r / 64 → ⊥) → bits 64 (set y (r / 64) (get_or y (r / 64) 0 % m)) k ≡ bits 64 y k
  other k h =
      bits_at 64 (set y (r / 64) (get_or y (r / 64) 0 % m)) (k / 64) (k % 64) (omega arith) (omega arith)
      ∙ ap (λ (x : ℕ). bit_at x (k % 64)) (get_or-set_other y (r / 64) (k / 64) (get_or y (r / 64) 0 % m) 0 h)
      ∙ sym (bits_at 64 y (k / 64) (k % 64) (omega arith) (omega arith))

  pub cut_in : InRing r (bits 64 (set y (r / 64) (get_or y (r / 64) 0 % m)))
  cut_in k h = go (dec_lt (r / 64) (k / 64))
    where
      go : Dec (r / 64 < k / 64) → bits 64 (set y (r / 64) (get_or y (r / 64) 0 % m)) k ≡ false
      go (yes above) = other k (λ e. omega arith) ∙ inside k (omega arith)
      go (no at) =
          last k (omega arith)
          ∙ bit_above (get_or y (r / 64) 0 % 2 ^ (r % 64)) (r % 64) (k % 64) (mod-lt (get_or y (r / 64) 0) (pow_pos (r % 64))) (omega arith)

-- the ones of word i, beside those of the words before it
pub ones_more : (a : List ℕ) (i : ℕ) → get_or a i 0 < 2 ^ 64
    → weight (64 * i) (bits 64 a) + ones (get_or a i 0) ≡ weight (64 * (i + 1)) (bits 64 a)
ones_more a i h =
    let more : 64 * (i + 1) ≡ 64 * i + 64 = omega arith in
    rw (more, weight-add (64 * i) 64 (bits 64 a))
    (ap (λ (n : ℕ). weight (64 * i) (bits 64 a) + n)
    (weight_word 64 (get_or a i 0) h ∙ weight_ext 64 {a = bit_at (get_or a i 0)} {b = λ e. bits 64 a (64 * i + e)} (λ e low. sym (bits_at 64 a i e refl low))))

-- ---- bytes

-- a byte below the bytes that w has
pub stacked : (b : List ℕ) (at w v e : ℕ) → v ≡ get_or b at 0 → v < 256 → e < 64 → (8 ≤ e → bit_at w (e - 8) ≡ bits 8 b (8 * at + e))
    → bit_at (bit_or (w * 2 ^ 8 % 2 ^ 64) v) e ≡ bits 8 b (8 * at + e)
stacked b at w v e byte small h above =
    bit-or (w * 2 ^ 8 % 2 ^ 64) v e ∙ ap (λ (c : Bool). c || bit_at v e) (bit-mod (w * 2 ^ 8) 64 e h) ∙ go (dec_lt e 8)
  where
    go : Dec (e < 8) → bit_at (w * 2 ^ 8) e || bit_at v e ≡ bits 8 b (8 * at + e)
    go (yes low) =
        ap (λ (c : Bool). c || bit_at v e) (bit_shl_below w 8 e low) ∙ ap (λ (x : ℕ). bit_at x e) byte ∙ sym (bits_at 8 b at e refl low)
    go (no high) =
        let back : e ≡ e - 8 + 8 = omega arith in
        ap₂ ◌||◌ (ap (bit_at (w * 2 ^ 8)) back ∙ bit_shl w 8 (e - 8)) (bit_above v 8 e small (omega arith))
        ∙ or-false (bit_at w (e - 8)) ∙ above (omega arith)

pub byte_at : (a : List ℕ) (i : ℕ) → get_or a (i / 8) 0 / 2 ^ (8 * (i % 8)) % 256 ≡ number 8 (λ e. bits 64 a (i * 8 + e))
byte_at a i =
    number_of 8 (get_or a (i / 8) 0 / 2 ^ (8 * (i % 8)) % 256) (λ e. bits 64 a (i * 8 + e)) (omega arith)
    (λ e h.
    bit-mod (get_or a (i / 8) 0 / 2 ^ (8 * (i % 8))) 8 e h ∙ bit_shr (get_or a (i / 8) 0) (8 * (i % 8)) e
    ∙ sym (bits_at 64 a (i / 8) (e + 8 * (i % 8)) (omega arith) (omega arith)))

-- ---- loops that write words from the left; P j y says that y is right as word j

module _ (P : ℕ → ℕ → Type 0) (x : List ℕ) where
  -- from word `at` on
  pub written : (at i v : ℕ) → at + i < length x → ((j : ℕ) → j < i → P j (get_or x (at + j) 0)) → P i v
      → (j : ℕ) → j < i + 1 → P j (get_or (set x (at + i) v) (at + j) 0)
  written at i v room before now j h = go (dec_lt j i)
    where
      go : Dec (j < i) → P j (get_or (set x (at + i) v) (at + j) 0)
      go (yes below) = rw (get_or-set_other x (at + i) (at + j) v 0 (λ e. omega arith)) (before j below)
      go (no reached) = let last : j ≡ i = omega arith in rw (last, get_or-set_same x (at + i) v 0 room) now

  -- and nothing else
  pub outside : (x₀ : List ℕ) (at i v : ℕ) → Outside at i x₀ x → Outside at (i + 1) x₀ (set x (at + i) v)
  outside x₀ at i v before j h = go h
    where
      go : (j < at) ⊎ (at + (i + 1) ≤ j) → get_or (set x (at + i) v) j 0 ≡ get_or x₀ j 0
      go (inl below) = get_or-set_other x (at + i) j v 0 (λ e. omega arith) ∙ before j (inl below)
      go (inr above) = get_or-set_other x (at + i) j v 0 (λ e. omega arith) ∙ before j (inr (omega arith))

  pub filled : (i v : ℕ) → i < length x → ((j : ℕ) → j < i → P j (get_or x j 0)) → P i v
      → (j : ℕ) → j < i + 1 → P j (get_or (set x i v) j 0)
  filled i v room before now =
      below_more (λ j. P j (get_or (set x i v) j 0)) i
      (λ j h. rw (get_or-set_other x i j v 0 (λ e. omega arith)) (before j h)) (rw (get_or-set_same x i v 0 room) now)

-- b stands alone, from word `at` on, in a list of zeros
pub placed : (at : ℕ) (z b t : List ℕ) → ((i : ℕ) → get_or z i 0 ≡ 0) → Outside at (length b) z t → ((i : ℕ) → i < length b → get_or t (at + i) 0 ≡ get_or b i 0)
    → (k : ℕ) → bits 64 t k ≡ shifted (64 * at) (bits 64 b) k
placed at z b t zeros out inside k = go (dec_lt k (64 * at)) (dec_lt k (64 * (at + length b)))
  where
    none : (k / 64 < at) ⊎ (at + length b ≤ k / 64) → bits 64 t k ≡ false
    none far =
        bits_at 64 t (k / 64) (k % 64) (omega arith) (omega arith)
        ∙ ap (λ (x : ℕ). bit_at x (k % 64)) (out (k / 64) far ∙ zeros (k / 64)) ∙ bit_zero (k % 64)

    go : Dec (k < 64 * at) → Dec (k < 64 * (at + length b)) → bits 64 t k ≡ shifted (64 * at) (bits 64 b) k
    go (yes below) d = none (inl (omega arith)) ∙ sym (shifted_below (64 * at) (bits 64 b) k below)
    go (no from) (yes before) =
        let i = k / 64 - at in
        bits_at 64 t (at + i) (k % 64) (omega arith) (omega arith) ∙ ap (λ (x : ℕ). bit_at x (k % 64)) (inside i (omega arith))
        ∙ sym (shifted_from (64 * at) (bits 64 b) k (omega arith) ∙ bits_at 64 b i (k % 64) (omega arith) (omega arith))
    go (no from) (no past) =
        none (inr (omega arith))
        ∙ sym (shifted_from (64 * at) (bits 64 b) k (omega arith) ∙ bits_out 64 b (k - 64 * at) (lit< tt) (omega arith))

-- ---- a polynomial that is filled word by word: i words have the coefficients of P, and the others are 0

abbrev pub Done : Poly → ℕ → List ℕ → Type 0
Done P i y =
    (length y ≡ words) × ((j : ℕ) → i ≤ j → get_or y j 0 ≡ 0)
    × ((j : ℕ) → j < i → (e : ℕ) → e < 64 → bit_at (get_or y j 0) e ≡ P (64 * j + e))

pub done_none : (P : Poly) (y : List ℕ) → y ≡ replicate words 0 → Done P 0 y
done_none P y zeros =
    (ap length zeros, (λ j h. ap (λ (l : List ℕ). get_or l j 0) zeros ∙ zero_at words j), λ j h. absurd (not-suc-le-zero h))

pub done_more : (P : Poly) (i v : ℕ) (y : List ℕ) → i < words → Done P i y → ((e : ℕ) → e < 64 → bit_at v e ≡ P (64 * i + e))
    → Done P (i + 1) (set y i v)
done_more P i v y room before now = (
  length-set y i v ∙ before.0,
  (λ j h. get_or-set_other y i j v 0 (λ e. omega arith) ∙ before.1 j (omega arith)),
  below_more (λ j. (e : ℕ) → e < 64 → bit_at (get_or (set y i v) j 0) e ≡ P (64 * j + e)) i
      (λ j h. rw (get_or-set_other y i j v 0 (λ e. omega arith)) (before.2 j h)) (rw (get_or-set_same y i v 0 (omega arith)) now),
)

module _ (P : Poly) (n : ℕ) (y : List ℕ) (done : Done P n y) where
  pub done_below : (k : ℕ) → k < 64 * n → bits 64 y k ≡ P k
  done_below = bits_by 64 y P n (lit< tt) done.2

  pub done_above : InRing (64 * n) (bits 64 y)
  done_above k h =
      bits_at 64 y (k / 64) (k % 64) (omega arith) (omega arith)
      ∙ ap (λ (x : ℕ). bit_at x (k % 64)) (done.1 (k / 64) (omega arith)) ∙ bit_zero (k % 64)

  pub done_all : InRing (64 * n) P → bits 64 y ≡ P
  done_all inside = fun_ext (λ k. go k (dec_lt k (64 * n)))
    where
      go : (k : ℕ) → Dec (k < 64 * n) → bits 64 y k ≡ P k
      go k (yes h) = done_below k h
      go k (no above) = done_above k (omega arith) ∙ sym (inside k (omega arith))

-- the bits from word `at` on
pub bits_from : (x : List ℕ) (at n : ℕ) (P : Poly)
    → ((j : ℕ) → j < n → (e : ℕ) → e < 64 → bit_at (get_or x (at + j) 0) e ≡ P (64 * j + e))
    → (k : ℕ) → k < 64 * n → bits 64 x (64 * at + k) ≡ P k
bits_from x at n P each k h =
    let parts : k ≡ 64 * (k / 64) + k % 64 = omega arith in
    bits_at 64 x (at + k / 64) (k % 64) (omega arith) (omega arith)
    ∙ each (k / 64) (omega arith) (k % 64) (omega arith) ∙ ap P (sym parts)
