-- The weight of a polynomial: what changes it, how it splits, and that of a word. Assumes nothing.
use mathlib.Core.Path.{◌≡◌, refl, sym, ap, ap₂, ◌∙◌}
use mathlib.Core.Bool.{Bool, true, false, ◌||◌}
use mathlib.Core.List.{List, [], ◌∷◌}
use Prim.Native.Nat.{ℕ, zero, suc, ◌+◌, ◌-◌, ◌/◌, ◌%◌, ◌^◌, ◌≤◌, ◌<◌}
use native.Mathlib.Nat.{not-suc-le-zero, le_refl, add-zero, add-suc, add_assoc, add_comm, mod-lt, mod-eq_of_lt, le_of_suc-le-suc, le-add_right, add-sub_of_le}
use native.Mathlib.Numerals.{add-one}
use native.Mathlib.Decide.{ℕ_discrete}
use native.Mathlib.Omega.{arith}
use lib.Arith.{lt-one}
use lib.Count.{ones, ones_cat}
use lib.Dec.{eqb}
use lib.ListN.{length, length-append}
use lib.Pow.{pow_pos, split, shr_lt}
use borrow.Author.Tests.{eq-eqb, ne_eqb}
use Rattle.hashing.specs.Lists.{bit_at}
use Rattle.hashing.proofs.Words.{bit-mod}
use Rattle.ring.specs.Polynomials.{Poly, InRing, both, bit, weight, rising}
use Rattle.ring.proofs.Binary.{bit-bit_at}

pub weight_ext : (n : ℕ) {a b : Poly} → ((k : ℕ) → k < n → a k ≡ b k) → weight n a ≡ weight n b
unfolding weight
weight_ext zero same = refl
weight_ext (suc n) same =
    ap₂ (λ (w : ℕ) (c : Bool). w + bit c) (weight_ext n (λ k below. same k (omega arith))) (same n (le_refl (suc n)))

pub weight-none : (n : ℕ) → weight n (λ k. false) ≡ 0
unfolding weight
weight-none zero = refl
weight-none (suc n) = rw (weight-none n)

pub weight_clear : (n : ℕ) (a : Poly) → weight n a ≡ 0 → (k : ℕ) → k < n → a k ≡ false
unfolding weight
weight_clear zero a none k below = absurd (not-suc-le-zero below)
weight_clear (suc n) a none k below = go (ℕ_discrete k n) (weight_clear n a (omega (arith, none)) k)
  where
    clear : (b : Bool) → bit b ≡ 0 → b ≡ false
    clear true e = absurd (omega arith)
    clear false e = refl

    go : Dec (k ≡ n) → (k < n → a k ≡ false) → a k ≡ false
    go (yes last) before = rw last (clear (a n) (omega (arith, none)))
    go (no other) before = before (omega arith)

-- the exponents that two polynomials share are no more than those of one
pub weight-both : (n : ℕ) (a b : Poly) → weight n (λ k. both (a k) (b k)) ≤ weight n a
unfolding weight
weight-both zero a b = le_refl 0
weight-both (suc n) a b = omega (arith, weight-both n a b, each (a n) (b n))
  where
    each : (s t : Bool) → bit (both s t) ≤ bit s
    each true true = le_refl 1
    each true false = omega arith
    each false t = le_refl 0

-- the coefficients below m, and those from m on
pub weight-add : (m n : ℕ) (a : Poly) → weight (m + n) a ≡ weight m a + weight n (λ k. a (m + k))
unfolding weight
weight-add m zero a = rw (add-zero m, add-zero (weight m a))
weight-add m (suc n) a = rw (add-suc m n, weight-add m n a) (add_assoc (weight m a) (weight n (λ k. a (m + k))) (bit (a (m + n))))

-- one coefficient more
pub weight_more : (n : ℕ) (a : Poly) (x : ℕ) → x < n → a x ≡ false → weight n (λ k. eqb k x || a k) ≡ suc (weight n a)
unfolding weight
weight_more zero a x below clear = absurd (not-suc-le-zero below)
weight_more (suc n) a x below clear = go (ℕ_discrete n x) (weight_more n a x)
  where
    go : Dec (n ≡ x) → (x < n → a x ≡ false → weight n (λ k. eqb k x || a k) ≡ suc (weight n a))
        → weight n (λ k. eqb k x || a k) + bit (eqb n x || a n) ≡ suc (weight n a + bit (a n))
    go (yes last) before =
        let lower = weight_ext n {a = λ k. eqb k x || a k} {b = a} (λ k low. rw (ne_eqb k x (omega arith))) in
        rw (lower, eq-eqb n x last, ap a last ∙ clear) (omega arith)
    go (no other) before = rw (before (omega arith) clear, ne_eqb n x other) (omega arith)

-- the highest bit of a number of w + 1
top_lt : (w x : ℕ) → x < 2 ^ suc w → x / 2 ^ w < 2
top_lt w x h = shr_lt 1 w (rw (add_comm 1 w, add-one w) h)

top : (w x : ℕ) → x < 2 ^ suc w → bit (bit_at x w) ≡ x / 2 ^ w
top w x h = bit-bit_at x w ∙ mod-eq_of_lt (top_lt w x h)

-- the ones of a word
ones_bit : (d : ℕ) → d < 2 → ones d ≡ d
unfolding ones
ones_bit zero h = refl
ones_bit (suc zero) h = refl
ones_bit (suc (suc d)) h = absurd (not-suc-le-zero (le_of_suc-le-suc (le_of_suc-le-suc h)))

pub weight_word : (w x : ℕ) → x < 2 ^ w → ones x ≡ weight w (bit_at x)
unfolding weight ones
weight_word zero x h = ap ones (lt-one h)
weight_word (suc w) x h =
    ap ones (sym (split x w)) ∙ ones_cat w (x / 2 ^ w) (x % 2 ^ w) (mod-lt x (pow_pos w))
    ∙ add_comm (ones (x / 2 ^ w)) (ones (x % 2 ^ w))
    ∙ ap₂ (λ (low high : ℕ). low + high)
    (weight_word w (x % 2 ^ w) (mod-lt x (pow_pos w)) ∙ weight_ext w {a = bit_at (x % 2 ^ w)} {b = bit_at x} (λ e below. bit-mod x w e below))
    (ones_bit (x / 2 ^ w) (top_lt w x h) ∙ sym (top w x h))

-- a polynomial of the ring has all its weight below r
pub weight_in : (r n : ℕ) {a : Poly} → InRing r a → r ≤ n → weight n a ≡ weight r a
weight_in r n {a = a} h le =
    ap (λ (m : ℕ). weight m a) (sym (add-sub_of_le le)) ∙ weight-add r (n - r) a
    ∙ ap (◌+◌ (weight r a)) (weight_ext (n - r) {b = λ k. false} (λ k below. h (r + k) (le-add_right r k)) ∙ weight-none (n - r))
    ∙ add-zero (weight r a)

-- as many exponents as it weighs
pub length-rising : (n : ℕ) (a : Poly) → length (rising n a) ≡ weight n a
unfolding rising weight
length-rising zero a = refl
length-rising (suc n) a =
    length-append (rising n a) _ ∙ ap₂ ◌+◌ (length-rising n a) (go (a n))
  where
    go : (b : Bool) → length {A = ℕ} (elim b as (λ _. List ℕ) [ true ↦ n ∷ [] | false ↦ [] ]) ≡ bit b
    go true = refl
    go false = refl
