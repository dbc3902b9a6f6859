-- The bits of numbers: what each operation on words does to the bit at a place. Assumes nothing.
use mathlib.Core.Path.{◌≡◌, refl, sym, ap, ap₂, ◌∙◌}
use mathlib.Core.Bool.{Bool, false, true≢false, false≢true, xor, ◌&&◌, ◌||◌}
use mathlib.Core.List.{List}
use Prim.Native.Nat.{ℕ, zero, suc, ◌+◌, ◌-◌, ◌*◌, ◌/◌, ◌%◌, ◌^◌, ◌≤◌, ◌<◌, zero-le}
use native.Mathlib.Nat.{mod-lt, not-suc-le-zero, le_of_suc-le-suc, div-eq_of_lt, div-add-mod, div-one, lt_of_lt_of_le, mul-mod_left, mul_assoc, add_comm, zero-lt-suc, mod-eq_of_lt, add-zero, mul-add-div, mul-add-mod_self_left, div-lt_iff_lt-mul, le-div_iff_mul-le, mul_comm, lt_of_le_of_lt}
use native.Mathlib.Numerals.{add-one}
use native.Mathlib.Omega.{arith}
use lib.Arith.{bin_ind, lt-one}
use lib.Bits.{bit_and, bit_or, bit_xor, differ, and_shr, or_shr, xor_shr, and_mod, or_mod, xor_mod, xor_step, xor_block}
use lib.Dec.{eqb, lit<}
use lib.ListN.{length, get_or, replicate, get_or-eq_default}
use lib.Pow.{pow_mono, shr-shr, shl-shr, mod-mod-pow, field, shr_lt, pow-add, pow_pos, mod-pow-add}
use Rattle.hashing.specs.Lists.{bit_at, bits}

-- ---- the operations of two words

-- a binary digit is 0 or 1
digit : (P : ℕ → Type 0) → P 0 → P 1 → (d : ℕ) → d < 2 → P d
digit P none set zero h = none
digit P none set (suc zero) h = set
digit P none set (suc (suc d)) h = absurd (not-suc-le-zero (le_of_suc-le-suc (le_of_suc-le-suc h)))

digits : (P : ℕ → ℕ → Type 0) → P 0 0 → P 0 1 → P 1 0 → P 1 1 → (d e : ℕ) → d < 2 → e < 2 → P d e
digits P p q r s d e hd he =
    digit (λ d. P d e) (digit (P 0) p q e he) (digit (P 1) r s e he) d hd

-- an operation that acts on each digit apart acts on the bits as g does
module _ (op : ℕ → ℕ → ℕ) (g : Bool → Bool → Bool)
    (shr : (x y k : ℕ) → op x y / 2 ^ k ≡ op (x / 2 ^ k) (y / 2 ^ k))
    (low : (x y k : ℕ) → op x y % 2 ^ k ≡ op (x % 2 ^ k) (y % 2 ^ k))
    (one : (d e : ℕ) → d < 2 → e < 2 → eqb (op d e) 1 ≡ g (eqb d 1) (eqb e 1)) where
  bit_of : (x y k : ℕ) → bit_at (op x y) k ≡ g (bit_at x k) (bit_at y k)
  unfolding bit_at
  bit_of x y k =
      rw (shr x y k, low (x / 2 ^ k) (y / 2 ^ k) 1)
      (one (x / 2 ^ k % 2) (y / 2 ^ k % 2) (mod-lt (x / 2 ^ k) (lit< tt)) (mod-lt (y / 2 ^ k) (lit< tt)))

pub bit-xor : (x y k : ℕ) → bit_at (bit_xor x y) k ≡ xor (bit_at x k) (bit_at y k)
unfolding xor
bit-xor =
    bit_of bit_xor xor xor_shr xor_mod
    (digits (λ d e. eqb (bit_xor d e) 1 ≡ xor (eqb d 1) (eqb e 1)) refl refl refl refl)

pub bit-or : (x y k : ℕ) → bit_at (bit_or x y) k ≡ bit_at x k || bit_at y k
bit-or =
    bit_of bit_or ◌||◌ or_shr or_mod
    (digits (λ d e. eqb (bit_or d e) 1 ≡ eqb d 1 || eqb e 1) refl refl refl refl)

pub bit-and : (x y k : ℕ) → bit_at (bit_and x y) k ≡ bit_at x k && bit_at y k
bit-and =
    bit_of bit_and ◌&&◌ and_shr and_mod
    (digits (λ d e. eqb (bit_and d e) 1 ≡ eqb d 1 && eqb e 1) refl refl refl refl)

-- ---- shifts

pub bit_shr : (x n k : ℕ) → bit_at (x / 2 ^ n) k ≡ bit_at x (k + n)
unfolding bit_at
bit_shr x n k = rw (shr-shr x n k, add_comm n k)

pub bit_shl : (x n k : ℕ) → bit_at (x * 2 ^ n) (k + n) ≡ bit_at x k
bit_shl x n k = sym (bit_shr (x * 2 ^ n) n k) ∙ ap (λ (y : ℕ). bit_at y k) (shl-shr x n)

-- a number of n bits has none from place n on
pub bit_above : (x n k : ℕ) → x < 2 ^ n → n ≤ k → bit_at x k ≡ false
unfolding bit_at
bit_above x n k h above = rw (div-eq_of_lt (lt_of_lt_of_le h (pow_mono above)))

pub bit-mod : (x m k : ℕ) → k < m → bit_at (x % 2 ^ m) k ≡ bit_at x k
unfolding bit_at
bit-mod x m k h =
    let above : m ≡ (m - k - 1 + 1) + k = omega arith in
    rw above (rw (field x (m - k - 1 + 1) k, mod-mod-pow (x / 2 ^ k) (m - k - 1) 1))

pub bit_shl_below : (x n k : ℕ) → k < n → bit_at (x * 2 ^ n) k ≡ false
unfolding bit_at
bit_shl_below x n k h =
    let above : n ≡ n - k - 1 + 1 + k = omega arith in
    rw (
      above,
      pow-add 2 (n - k - 1 + 1) k,
      ← mul_assoc x (2 ^ (n - k - 1 + 1)) (2 ^ k),
      shl-shr (x * 2 ^ (n - k - 1 + 1)) k,
      pow-add 2 (n - k - 1) 1,
      ← mul_assoc x (2 ^ (n - k - 1)) 2,
      mul-mod_left (x * 2 ^ (n - k - 1)) 2,
    )

-- numbers of w bits are equal where their bits are
pub bit_ext : (w : ℕ) {x y : ℕ} → x < 2 ^ w → y < 2 ^ w → ((k : ℕ) → k < w → bit_at x k ≡ bit_at y k) → x ≡ y
unfolding bit_at
bit_ext zero hx hy same = lt-one hx ∙ sym (lt-one hy)
bit_ext (suc w) {x} {y} hx hy same =
    sym (div-add-mod x 2)
    ∙ ap₂ (λ (q d : ℕ). 2 * q + d)
    (bit_ext w (shr_lt w 1 (rw add-one hx)) (shr_lt w 1 (rw add-one hy))
    (λ k h. bit_shr x 1 k ∙ same (k + 1) (omega arith) ∙ sym (bit_shr y 1 k)))
    (digits (λ d e. eqb d 1 ≡ eqb e 1 → d ≡ e) (λ h. refl) (λ h. absurd (false≢true h)) (λ h. absurd (true≢false h))
    (λ h. refl) (x % 2) (y % 2) (mod-lt x (lit< tt)) (mod-lt y (lit< tt)) (simp div-one at (same 0 (zero-lt-suc w))))
    ∙ div-add-mod y 2

pub xor_assoc : (x y z : ℕ) → bit_xor (bit_xor x y) z ≡ bit_xor x (bit_xor y z)
xor_assoc =
    bin_ind (λ x. (y z : ℕ) → bit_xor (bit_xor x y) z ≡ bit_xor x (bit_xor y z)) (λ y z. refl)
    (λ x half y z.
    xor_step (bit_xor x y) z
    ∙ ap₂ (λ (q d : ℕ). q * 2 + d)
    (ap (λ (q : ℕ). bit_xor q (z / 2)) (xor_shr x y 1) ∙ half (y / 2) (z / 2) ∙ ap (bit_xor (x / 2)) (sym (xor_shr y z 1)))
    (ap (λ (d : ℕ). differ d (z % 2)) (xor_mod x y 1)
    ∙ digit (λ f. differ (bit_xor (x % 2) (y % 2)) f ≡ differ (x % 2) (bit_xor (y % 2) f))
    (digits (λ d e. differ (bit_xor d e) 0 ≡ differ d (bit_xor e 0)) refl refl refl refl (x % 2) (y % 2) (mod-lt x (lit< tt)) (mod-lt y (lit< tt)))
    (digits (λ d e. differ (bit_xor d e) 1 ≡ differ d (bit_xor e 1)) refl refl refl refl (x % 2) (y % 2) (mod-lt x (lit< tt)) (mod-lt y (lit< tt)))
    (z % 2) (mod-lt z (lit< tt))
    ∙ ap (differ (x % 2)) (sym (xor_mod y z 1)))
    ∙ sym (xor_step x (bit_xor y z)))

pub xor_scaled : (x y k : ℕ) → bit_xor (x * 2 ^ k) (y * 2 ^ k) ≡ bit_xor x y * 2 ^ k
xor_scaled x y k = simp add-zero at (xor_block k x y 0 0 (pow_pos k) (pow_pos k))

-- a number shifted left in j + k bits keeps its low j bits
pub shl_mod : (x j k : ℕ) → x * 2 ^ k % 2 ^ (j + k) ≡ (x % 2 ^ j) * 2 ^ k
shl_mod x j k = mod-pow-add (x * 2 ^ k) j k ∙ rw (shl-shr, mul-mod_left, add-zero)

-- ---- lists of numbers of w bits

pub bit_zero : (k : ℕ) → bit_at 0 k ≡ false
bit_zero k = bit_above 0 0 k (lit< tt) zero-le

module _ (w : ℕ) (xs : List ℕ) where
  pub bits_at : {k : ℕ} (i e : ℕ) → k ≡ w * i + e → e < w → bits w xs k ≡ bit_at (get_or xs i 0) e
  unfolding bits
  bits_at i e at h =
      rw (at, mul-add-div (lt_of_le_of_lt zero-le h) i e, mul-add-mod_self_left w i e, div-eq_of_lt h, mod-eq_of_lt h, add-zero i)

  -- to know the bits of a list, look at the bits of each of its elements
  pub bits_by : (P : ℕ → Bool) (n : ℕ) → zero < w
      → ((i : ℕ) → i < n → (e : ℕ) → e < w → bit_at (get_or xs i 0) e ≡ P (w * i + e))
      → (k : ℕ) → k < w * n → bits w xs k ≡ P k
  unfolding bits
  bits_by P n pos each k h =
      each (k / w) ((div-lt_iff_lt-mul pos).1 (rw (mul_comm n w) h)) (k % w) (mod-lt k pos) ∙ ap P (div-add-mod k w)

  pub bits_out : (k : ℕ) → zero < w → w * length xs ≤ k → bits w xs k ≡ false
  unfolding bits
  bits_out k pos h =
      let past : length xs ≤ k / w = (le-div_iff_mul-le pos).1 (rw (mul_comm (length xs) w) h) in
      rw (get_or-eq_default xs 0 past) (bit_zero (k % w))

-- a list of zeros has no bit
pub zero_at : (n i : ℕ) → ◌≡◌ {A = ℕ} (get_or (replicate n 0) i 0) 0
zero_at zero i = refl
zero_at (suc n) zero = refl
zero_at (suc n) (suc i) = zero_at n i

pub bits_none : (w n k : ℕ) → bits w (replicate n 0) k ≡ false
unfolding bits
bits_none w n k = rw (zero_at n (k / w)) (bit_zero (k % w))
