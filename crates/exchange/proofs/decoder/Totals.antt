-- Laws of sums of numbers, and of bits that are counted. Assumes nothing.
use mathlib.Core.Path.{◌≡◌, refl, sym, ap₂}
use mathlib.Core.Bool.{Bool, true, false}
use Prim.Native.Nat.{ℕ, zero, suc, ◌+◌, ◌≤◌, ◌<◌, zero-le}
use native.Mathlib.Nat.{add-zero, lt-suc_self, add-suc, add_assoc, le_refl}
use native.Mathlib.Omega.{arith}
use Rattle.ring.specs.Polynomials.{bit}
use Rattle.exchange.specs.inner.Counting.{total}

pub total_ext : (n : ℕ) (f g : ℕ → ℕ) → ((i : ℕ) → i < n → f i ≡ g i) → total n f ≡ total n g
unfolding total
total_ext zero f g h = refl
total_ext (suc n) f g h = ap₂ ◌+◌ (total_ext n f g (λ i below. h i (omega arith))) (h n (lt-suc_self n))

pub total-add : (m n : ℕ) (f : ℕ → ℕ) → total (m + n) f ≡ total m f + total n (λ k. f (m + k))
unfolding total
total-add m zero f = rw add-zero (sym (add-zero (total m f)))
total-add m (suc n) f = rw (add-suc m n, total-add m n f) (add_assoc (total m f) (total n (λ k. f (m + k))) (f (m + n)))

pub total_le : (n : ℕ) (f : ℕ → ℕ) → ((i : ℕ) → f i ≤ 1) → total n f ≤ n
unfolding total
total_le zero f h = zero-le
total_le (suc n) f h = omega (arith, total_le n f h, h n)

pub bit_le : (b : Bool) → bit b ≤ 1
bit_le true = le_refl 1
bit_le false = zero-le
