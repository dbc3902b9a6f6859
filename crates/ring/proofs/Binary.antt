-- A number and its binary digits determine each other. Assumes nothing.
use mathlib.Core.Path.{◌≡◌, refl, sym, ◌∙◌}
use mathlib.Core.Bool.{Bool, true, false}
use Prim.Native.Nat.{ℕ, zero, suc, ◌+◌, ◌*◌, ◌/◌, ◌%◌, ◌^◌, ◌≤◌, ◌<◌}
use native.Mathlib.Nat.{le_refl, not-suc-le-zero, lt_of_lt_of_le, pow-suc, add_comm, mod-one, mod-eq_of_lt}
use native.Mathlib.Decide.{dec_le, ℕ_discrete}
use native.Mathlib.Numerals.{one-add}
use native.Mathlib.Omega.{arith}
use lib.Dec.{eqb}
use lib.Pow.{pow_pos, pow_mono, mod-pow-add, high, low}
use borrow.Author.Tests.{eq-eqb, ne_eqb}
use Rattle.hashing.proofs.Words.{bit-mod}
use Rattle.hashing.specs.Lists.{bit_at}
use Rattle.ring.specs.Polynomials.{bit}
use Rattle.ring.specs.Bytes.{number}

-- a digit as a number
pub bit-bit_at : (x k : ℕ) → bit (bit_at x k) ≡ x / 2 ^ k % 2
unfolding bit_at
bit-bit_at x k = go (ℕ_discrete (x / 2 ^ k % 2) 1)
  where
    go : Dec (x / 2 ^ k % 2 ≡ 1) → bit (eqb (x / 2 ^ k % 2) 1) ≡ x / 2 ^ k % 2
    go (yes set) = rw (eq-eqb (x / 2 ^ k % 2) 1 set) (sym set)
    go (no clear) = rw (ne_eqb (x / 2 ^ k % 2) 1 clear) (omega arith)

pub number_ext : (w : ℕ) {f g : ℕ → Bool} → ((i : ℕ) → i < w → f i ≡ g i) → number w f ≡ number w g
unfolding number
number_ext zero h = refl
number_ext (suc w) h = rw (number_ext w (λ i below. h i (omega arith)), h w (le_refl (suc w)))

pub number_lt : (w : ℕ) (f : ℕ → Bool) → number w f < 2 ^ w
unfolding number
number_lt zero f = le_refl 1
number_lt (suc w) f = go (f w) (number_lt w f)
  where
    go : (b : Bool) → number w f < 2 ^ w → number w f + bit b * 2 ^ w < 2 ^ suc w
    go true h = rw (pow-suc 2 w) (omega arith)
    go false h = rw (pow-suc 2 w) (omega arith)

-- without digits from m on a number is below 2^m
pub number_below : (w m : ℕ) (f : ℕ → Bool) → ((k : ℕ) → m ≤ k → k < w → f k ≡ false) → number w f < 2 ^ m
unfolding number
number_below zero m f none = pow_pos m
number_below (suc w) m f none = go (dec_le m w) (number_below w m f (λ k from below. none k from (omega arith)))
  where
    go : Dec (m ≤ w) → number w f < 2 ^ m → number w f + bit (f w) * 2 ^ w < 2 ^ m
    go (yes past) before = rw (none w past (le_refl (suc w))) (omega arith)
    go (no within) before = lt_of_lt_of_le (number_lt (suc w) f) (pow_mono (omega arith))

-- the digits of the number that they make
pub bit_at-number : (w : ℕ) (f : ℕ → Bool) (k : ℕ) → k < w → bit_at (number w f) k ≡ f k
unfolding number bit_at
bit_at-number zero f k below = absurd (not-suc-le-zero below)
bit_at-number (suc w) f k below = rw (add_comm (number w f) (bit (f w) * 2 ^ w)) (go (ℕ_discrete k w) (bit_at-number w f k))
  where
    top : (b : Bool) → eqb (bit b % 2) 1 ≡ b
    top true = refl
    top false = refl

    go : Dec (k ≡ w) → (k < w → bit_at (number w f) k ≡ f k) → bit_at (bit (f w) * 2 ^ w + number w f) k ≡ f k
    go (yes last) before = rw (last, high (bit (f w)) w (number_lt w f)) (top (f w))
    go (no other) before =
        let lower : k < w = omega arith in
        sym (bit-mod (bit (f w) * 2 ^ w + number w f) w k lower) ∙ rw (low (bit (f w)) w (number_lt w f)) (before lower)

-- the number that is made of its own digits
pub number-bit_at : (w x : ℕ) → number w (bit_at x) ≡ x % 2 ^ w
unfolding number
number-bit_at zero x = sym (mod-one x)
number-bit_at (suc w) x =
    rw (number-bit_at w x, bit-bit_at x w, ← one-add w) (add_comm (x % 2 ^ w) (x / 2 ^ w % 2 * 2 ^ w) ∙ sym (mod-pow-add x 1 w))

-- a number of w digits is given by them
pub number_of : (w x : ℕ) (f : ℕ → Bool) → x < 2 ^ w → ((e : ℕ) → e < w → bit_at x e ≡ f e) → x ≡ number w f
number_of w x f small same = sym (mod-eq_of_lt small) ∙ sym (number-bit_at w x) ∙ number_ext w same
