-- What a squaring rests on: bits taken in at the low end of a word, and places in a circle. Assumes nothing.
use mathlib.Core.Path.{◌≡◌, refl, sym, ap, ap₂, ◌∙◌, subst}
use mathlib.Core.Bool.{Bool, true, false, ◌||◌, or-false}
use mathlib.Core.List.{List}
use Prim.Native.Nat.{ℕ, zero, suc, ◌+◌, ◌-◌, ◌*◌, ◌/◌, ◌%◌, ◌^◌, ◌<◌}
use native.Mathlib.Nat.{add-mod-mod, add-mul-mod_self_right, mod-add-mod, add-mul, mul-add, mul_assoc, mul_comm, mul-one, mul-zero, mod-eq_of_lt, one-mul, zero-mul, zero-mod, zero-lt-suc}
use native.Mathlib.Decide.{ℕ_discrete}
use native.Mathlib.Numerals.{add-one}
use native.Mathlib.Omega.{arith}
use lib.Bits.{bit_or, or_shifted}
use lib.Dec.{lit<}
use lib.ListN.{get_or}
use lib.Pow.{pow-add}
use Rattle.hashing.specs.Lists.{bit_at, bits}
use Rattle.hashing.proofs.Words.{bit-or, bit-mod, bit_shl, bit_shl_below, bit_above, bits_at}
use Rattle.ring.specs.inner.Even.{source}
use Rattle.ring.specs.inner.Held.{Taken}
use Rattle.ring.specs.Polynomials.{Poly, bit}
use Rattle.ring.proofs.Powers.{mul_mod_mod}

pub bit_small : (b : Bool) → bit b < 2
bit_small true = lit< tt
bit_small false = lit< tt

-- bits above e have come in at the low end, the highest first; now bit e comes in, and the sum loses nothing
pub taken_in : (f : ℕ → Bool) (w e : ℕ) {b : ℕ} → e < 64 → b ≡ bit (f e) → Taken f (e + 1) w → Taken f e (w * 2 % 2 ^ 64 + b)
unfolding bit_at
taken_in f w e room comes before i below = rw (comes, sum) (bit-or (w * 2 % 2 ^ 64) (bit (f e)) i ∙ go i below)
  where
    sum : w * 2 % 2 ^ 64 + bit (f e) ≡ bit_or (w * 2 % 2 ^ 64) (bit (f e))
    sum =
        let even : w * 2 % 2 ^ 64 ≡ w % 2 ^ 63 * 2 = omega arith in
        rw even (sym (or_shifted (w % 2 ^ 63) 1 (bit (f e)) (bit_small (f e))))

    lowest : (b : Bool) → bit_at (bit b) 0 ≡ b
    lowest true = refl
    lowest false = refl

    go : (i : ℕ) → i < 64 - e → bit_at (w * 2 % 2 ^ 64) i || bit_at (bit (f e)) i ≡ f (e + i)
    go zero below = ap₂ ◌||◌ (bit-mod (w * 2) 64 0 (lit< tt) ∙ bit_shl_below w 1 0 (lit< tt)) (lowest (f e)) ∙ ap f (omega arith)
    go (suc i) below =
        rw (← add-one i)
        (ap₂ ◌||◌ (bit-mod (w * 2) 64 (i + 1) (omega arith) ∙ bit_shl w 1 i ∙ before i (omega arith))
        (bit_above (bit (f e)) 1 (i + 1) (bit_small (f e)) (omega arith))
        ∙ or-false (f (e + 1 + i)) ∙ ap f (omega arith))

pub taken-same : (f : ℕ → Bool) (w : ℕ) {m n : ℕ} → m ≡ n → Taken f m w → Taken f n w
taken-same f w same = subst (λ (e : ℕ). Taken f e w) same

-- places in a circle: the multiple j of n, and e steps of n further
pub circle_on : (r n j e : ℕ) → ((n * j) % r + (n * e) % r) % r ≡ (n * (j + e)) % r
circle_on r n j e =
    mod-add-mod (n * j) r ((n * e) % r) ∙ add-mod-mod (n * j) (n * e) r
    ∙ ap (λ (p : ℕ). p % r) (sym (mul-add n j e))

-- inverses of powers of 2, multiplied, are the inverse of their product
pub halves_times : (r i s h p : ℕ) → (2 ^ i * h) % r ≡ 1 → (2 ^ s * p) % r ≡ 1 → (2 ^ (i + s) * ((h * p) % r)) % r ≡ 1
halves_times r i s h p first second =
    mul_mod_mod (2 ^ (i + s)) (h * p) r ∙ ap (λ (n : ℕ). n % r) apart ∙ sym (mul_mod_mod (2 ^ i * h) (2 ^ s * p) r)
    ∙ rw (second, mul-one (2 ^ i * h)) first
  where
    inner : 2 ^ s * (h * p) ≡ h * (2 ^ s * p)
    inner = sym (mul_assoc (2 ^ s) h p) ∙ ap (λ (n : ℕ). n * p) (mul_comm (2 ^ s) h) ∙ mul_assoc h (2 ^ s) p

    apart : 2 ^ (i + s) * (h * p) ≡ 2 ^ i * h * (2 ^ s * p)
    apart =
        rw (pow-add 2 i s) (mul_assoc (2 ^ i) (2 ^ s) (h * p) ∙ ap (λ (n : ℕ). 2 ^ i * n) inner ∙ sym (mul_assoc (2 ^ i) h (2 ^ s * p)))

-- half of 1 modulo an odd r, and half of a place in the circle
pub half_unit : (r : ℕ) → r % 2 ≡ 1 → 1 < r → (2 * ((r + 1) / 2)) % r ≡ 1
half_unit r odd more =
    let twice : 2 * ((r + 1) / 2) ≡ 1 + 1 * r = omega arith in
    ap (λ (n : ℕ). n % r) twice ∙ add-mul-mod_self_right 1 1 r ∙ mod-eq_of_lt more

pub half_place : (r k : ℕ) → r % 2 ≡ 1 → k < r → ((r + 1) / 2 * k) % r ≡ k / 2 + k % 2 * ((r + 1) / 2)
half_place r k odd below =
    ap (λ (n : ℕ). n % r) whole ∙ add-mul-mod_self_right (k / 2 + k % 2 * m) (k / 2) r ∙ mod-eq_of_lt (inside (ℕ_discrete (k % 2) 0))
  where
    m : ℕ
    m = (r + 1) / 2

    whole : m * k ≡ k / 2 + k % 2 * m + k / 2 * r
    whole =
        let parts : k ≡ k / 2 + k / 2 + k % 2 = omega arith in
        let twice : m + m ≡ r + 1 = omega arith in
        let turns : m * (k / 2) + m * (k / 2) ≡ k / 2 * r + k / 2 =
        sym (add-mul m m (k / 2)) ∙ ap (λ (n : ℕ). n * (k / 2)) twice ∙ mul_comm (r + 1) (k / 2) ∙ mul-add (k / 2) r 1 ∙ ap (λ (n : ℕ). k / 2 * r + n) (mul-one (k / 2)) in
        ap (λ (n : ℕ). m * n) parts ∙ omega (arith, mul-add m (k / 2 + k / 2) (k % 2), mul-add m (k / 2) (k / 2), turns, mul_comm m (k % 2))

    inside : Dec (k % 2 ≡ 0) → k / 2 + k % 2 * m < r
    inside (yes even) = let none : k % 2 * m ≡ 0 = ap (λ (n : ℕ). n * m) even ∙ zero-mul m in omega (arith, none)
    inside (no other) =
        let one : k % 2 ≡ 1 = omega arith in
        let once : k % 2 * m ≡ m = ap (λ (n : ℕ). n * m) one ∙ one-mul m in
        omega (arith, once)

-- a word of a square, from what it has at its even and its odd places
pub word_is : (x : Poly) (middle i w : ℕ) → ((k : ℕ) → k < 32 → (bit_at w (k + k) ≡ x (32 * i + k)) × (bit_at w (k + k + 1) ≡ x (middle + (32 * i + k))))
    → (e : ℕ) → e < 64 → bit_at w e ≡ x (source middle (64 * i + e))
unfolding source
word_is x middle i w places e below = go (ℕ_discrete (e % 2) 0)
  where
    go : Dec (e % 2 ≡ 0) → bit_at w e ≡ x (source middle (64 * i + e))
    go (yes even) =
        let same : e ≡ e / 2 + e / 2 = omega arith in
        let none : (64 * i + e) % 2 ≡ 0 = omega arith in
        let nothing : (64 * i + e) % 2 * middle ≡ 0 = ap (λ (n : ℕ). n * middle) none ∙ zero-mul middle in
        let place : 32 * i + e / 2 ≡ (64 * i + e) / 2 + (64 * i + e) % 2 * middle = omega (arith, nothing) in
        ap (bit_at w) same ∙ (places (e / 2) (omega arith)).0 ∙ ap x place
    go (no odd) =
        let same : e ≡ e / 2 + e / 2 + 1 = omega arith in
        let one : (64 * i + e) % 2 ≡ 1 = omega arith in
        let once : (64 * i + e) % 2 * middle ≡ middle = ap (λ (n : ℕ). n * middle) one ∙ one-mul middle in
        let place : middle + (32 * i + e / 2) ≡ (64 * i + e) / 2 + (64 * i + e) % 2 * middle = omega (arith, once) in
        ap (bit_at w) same ∙ (places (e / 2) (omega arith)).1 ∙ ap x place

-- the two words that a word x and the window h over the same places give
pub lower_word : (d : List ℕ) (middle i w h : ℕ) → ((e : ℕ) → e < 64 → bit_at h e ≡ bits 64 d (middle + (64 * i + e)))
    → ((k : ℕ) → k < 32 → (bit_at w (k + k) ≡ bit_at (get_or d i 0) k) × (bit_at w (k + k + 1) ≡ bit_at h k))
    → (e : ℕ) → e < 64 → bit_at w e ≡ bits 64 d (source middle (64 * (2 * i) + e))
lower_word d middle i w h shows halves =
    word_is (bits 64 d) middle (2 * i) w (λ k below.
    let place : 64 * i + k ≡ 32 * (2 * i) + k = omega arith in (
      (halves k below).0 ∙ sym (bits_at 64 d i k refl (omega arith)) ∙ ap (bits 64 d) place,
      (halves k below).1 ∙ shows k (omega arith) ∙ ap (λ (j : ℕ). bits 64 d (middle + j)) place,
    ))

pub upper_word : (d : List ℕ) (middle i w h : ℕ) → ((e : ℕ) → e < 64 → bit_at h e ≡ bits 64 d (middle + (64 * i + e)))
    → ((k : ℕ) → k < 32 → (bit_at w (k + k) ≡ bit_at (get_or d i 0) (k + 32)) × (bit_at w (k + k + 1) ≡ bit_at h (k + 32)))
    → (e : ℕ) → e < 64 → bit_at w e ≡ bits 64 d (source middle (64 * (2 * i + 1) + e))
upper_word d middle i w h shows halves =
    word_is (bits 64 d) middle (2 * i + 1) w (λ k below.
    let place : 64 * i + (k + 32) ≡ 32 * (2 * i + 1) + k = omega arith in (
      (halves k below).0 ∙ sym (bits_at 64 d i (k + 32) refl (omega arith)) ∙ ap (bits 64 d) place,
      (halves k below).1 ∙ shows (k + 32) (omega arith) ∙ ap (λ (j : ℕ). bits 64 d (middle + j)) place,
    ))

-- a factor of 1 is not 0
pub unit_pos : (r m n : ℕ) → (m * n) % r ≡ 1 → 0 < n
unit_pos r m zero unit =
    let wrong : ◌≡◌ {A = ℕ} 0 1 = sym (zero-mod r) ∙ ap (λ (p : ℕ). p % r) (sym (mul-zero m)) ∙ unit in
    omega arith
unit_pos r m (suc n) unit = zero-lt-suc n
