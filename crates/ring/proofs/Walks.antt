-- Where a walk from 2 by doubling modulo r meets no 1 before it has made r - 2 steps, the powers of 2 run through 1 to r - 1.
-- Assumes nothing.
use mathlib.Core.Path.{◌≡◌, sym, ap, ◌∙◌}
use mathlib.Core.Bool.{Bool, true, not, ◌&&◌, true≢false}
use Prim.Native.Nat.{ℕ, zero, suc, ◌+◌, ◌-◌, ◌*◌, ◌/◌, ◌%◌, ◌^◌, ◌<◌}
use native.Mathlib.Nat.{add-suc, suc-add, add-zero, zero-add, mul_comm, mul_assoc, mul-one, pow-succ', mod-lt, mod-eq_of_lt, zero-mod, add-mod_right}
use native.Mathlib.Decide.{dec_lt}
use native.Mathlib.Omega.{arith}
use lib.Dec.{eqb}
use borrow.Author.Tests.{eq-eqb}
use Rattle.ring.specs.Invertible.{RunsThrough}
use Rattle.ring.proofs.Bools.{both_true}
use Rattle.ring.proofs.Pigeonhole.{Apart, pigeonhole}
use Rattle.ring.proofs.Powers.{mul_mod_mod}

pub power-doubled : (r i : ℕ) → (2 * 2 ^ i) % r ≡ 2 ^ suc i % r
power-doubled r i = ap (λ (n : ℕ). n % r) (sym (pow-succ' 2 i))

-- whether none of the n numbers x, 2 x, 4 x, .. is 1 modulo r
unfoldable pub walk : ℕ → ℕ → ℕ → Bool
walk r zero x = true
walk r (suc n) x = not (eqb x 1) && walk r n ((2 * x) % r)

walk_misses : (r n k : ℕ) → walk r n (2 ^ k % r) ≡ true → (i : ℕ) → i < n → 2 ^ (k + i) % r ≡ 1 → ⊥
unfolding walk
walk_misses r zero k e i below one = omega arith
walk_misses r (suc n) k e zero below one =
    let apart = (both_true (not (eqb (2 ^ k % r) 1)) (walk r n ((2 * (2 ^ k % r)) % r)) e).0 in
    true≢false (sym apart ∙ ap not (eq-eqb (2 ^ k % r) 1 (rw (add-zero k) at one)))
walk_misses r (suc n) k e (suc i) below one =
    let rest = (both_true (not (eqb (2 ^ k % r) 1)) (walk r n ((2 * (2 ^ k % r)) % r)) e).1 in
    let next : (2 * (2 ^ k % r)) % r ≡ 2 ^ suc k % r = mul_mod_mod 2 (2 ^ k) r ∙ power-doubled r k in
    walk_misses r n (suc k) (rw next at rest) i (omega arith) (ap (λ (m : ℕ). 2 ^ m % r) (suc-add k i ∙ sym (add-suc k i)) ∙ one)

-- with r odd, 2 has an inverse modulo r
pub half : ℕ → ℕ
half r = (r + 1) / 2

module _ (r : ℕ) (big : 2 < r) (odd : r % 2 ≡ 1) where
  pub half_unit : (2 * half r) % r ≡ 1
  unfolding half
  half_unit =
      let whole : 2 * ((r + 1) / 2) ≡ 1 + r = omega arith in
      ap (λ (n : ℕ). n % r) whole ∙ add-mod_right 1 r ∙ mod-eq_of_lt (omega arith)

  -- to halve is to undo a doubling
  pub halved : (x : ℕ) → (half r * ((2 * x) % r)) % r ≡ x % r
  halved x =
      mul_mod_mod (half r) (2 * x) r
      ∙ ap (λ (n : ℕ). n % r) (sym (mul_assoc (half r) 2 x) ∙ mul_comm (half r * 2) x ∙ ap (◌*◌ x) (mul_comm (half r) 2))
      ∙ sym (mul_mod_mod x (2 * half r) r) ∙ ap (λ (n : ℕ). (x * n) % r) half_unit ∙ ap (λ (n : ℕ). n % r) (mul-one x)

  cancel : (x y : ℕ) → (2 * x) % r ≡ (2 * y) % r → x % r ≡ y % r
  cancel x y e = sym (halved x) ∙ ap (λ (n : ℕ). (half r * n) % r) e ∙ halved y

  power_some : (i : ℕ) → 2 ^ i % r ≡ 0 → ⊥
  power_some zero e = let one : 1 % r ≡ 1 = mod-eq_of_lt (omega arith) in omega arith
  power_some (suc i) e =
      power_some i (cancel (2 ^ i) 0 (power-doubled r i ∙ e ∙ sym (zero-mod r)) ∙ zero-mod r)

  -- two equal powers are a power that is 1 apart
  power_again : (i d : ℕ) → 2 ^ (i + d) % r ≡ 2 ^ i % r → 2 ^ d % r ≡ 1
  power_again zero d e = ap (λ (n : ℕ). 2 ^ n % r) (sym (zero-add d)) ∙ e ∙ mod-eq_of_lt (omega arith)
  power_again (suc i) d e =
      let longer : 2 ^ suc (i + d) % r ≡ 2 ^ (suc i + d) % r = ap (λ (n : ℕ). 2 ^ n % r) (sym (suc-add i d)) in
      power_again i d (cancel (2 ^ (i + d)) (2 ^ i) (power-doubled r (i + d) ∙ longer ∙ e ∙ sym (power-doubled r i)))

  module _ (misses : walk r (r - 2) 2 ≡ true) where
    never : (d : ℕ) → 0 < d → d < r - 1 → 2 ^ d % r ≡ 1 → ⊥
    never d some few e =
        let two : 2 ^ 1 % r ≡ 2 = mod-eq_of_lt big in
        walk_misses r (r - 2) 1 (rw two misses) (d - 1) (omega arith) (ap (λ (n : ℕ). 2 ^ n % r) (omega arith) ∙ e)

    distinct : (i j : ℕ) → i < r - 1 → j < r - 1 → 2 ^ i % r ≡ 2 ^ j % r → i ≡ j
    distinct i j low high e = go (dec_lt i j) (dec_lt j i)
      where
        go : Dec (i < j) → Dec (j < i) → i ≡ j
        go (yes less) _ =
            absurd (never (j - i) (omega arith) (omega arith) (power_again i (j - i) (ap (λ (n : ℕ). 2 ^ n % r) (omega arith) ∙ sym e)))
        go (no _) (yes less) =
            absurd (never (i - j) (omega arith) (omega arith) (power_again j (i - j) (ap (λ (n : ℕ). 2 ^ n % r) (omega arith) ∙ e)))
        go (no upper) (no lower) = omega arith

    powers_apart : Apart (r - 1) (λ i. 2 ^ i % r - 1)
    powers_apart =
        record {
          within = λ i below. let small : 2 ^ i % r < r = mod-lt (2 ^ i) (omega arith) in omega arith;
          apart = λ i j low high e. distinct i j low high (let one = power_some i in let other = power_some j in omega arith);
        }

    pub walk_runs : RunsThrough r
    walk_runs j some below =
        let from = pigeonhole (r - 1) (λ i. 2 ^ i % r - 1) powers_apart (j - 1) (omega arith) in
        let set = power_some from.0 in
        (from.0, omega (arith, from.2))
