-- Powers in the ring: to square is to double the exponents, so a^(2^k) maps exponent i to 2^k i, and with 2^(r-1) mod r = 1
-- every polynomial of the ring is its own power 2^(r-1). Assumes nothing.
use mathlib.Core.Path.{◌≡◌, sym, ap, fun_ext, ◌∙◌}
use mathlib.Core.Bool.{Bool}
use Prim.Native.Nat.{ℕ, zero, suc, ◌+◌, ◌*◌, ◌/◌, ◌%◌, ◌^◌, ◌<◌}
use native.Mathlib.Nat.{add_comm, add-zero, add-suc, mul_comm, mul_assoc, mul-add, mul-zero, mul-one, mul-suc, mod-lt, mod-eq_of_lt, one-mul, two-mul, two-pow-succ, pow-succ', mod-add-div', add-mul-mod_self_right}
use Rattle.ring.specs.Polynomials.{Poly, InRing, both, over, power, one, mul, spread, pow}
use Rattle.ring.proofs.Parity.{both_left, both_self, eqb_same, parity_ext, parity_pick, parity-both, parity_square}
use Rattle.ring.proofs.Ring

-- a factor may be taken modulo r first
pub mul_mod_mod : (m n r : ℕ) → (m * (n % r)) % r ≡ (m * n) % r
mul_mod_mod m n r =
    let whole : m * (n % r) + m * (n / r) * r ≡ m * n =
    rw (mul_assoc m (n / r) r, ← mul-add m (n % r) (n / r * r), mod-add-div' n r) in
    sym (add-mul-mod_self_right (m * (n % r)) (m * (n / r)) r) ∙ ap (λ (x : ℕ). x % r) whole

pub square : (r : ℕ) (a : Poly) → mul r a a ≡ spread r 2 a
unfolding mul spread over
square r a =
    fun_ext (λ k. parity_ext r (λ i _. sym (parity-both r (a i) (λ j. both (a j) (power r (i + j) k))))
    ∙ parity_square r (λ i j. both (a i) (both (a j) (power r (i + j) k)))
    (λ i j. both_left (a i) (a j) (power r (i + j) k) ∙ ap (λ (n : ℕ). both (a j) (both (a i) (power r n k))) (add_comm i j))
    ∙ parity_ext r (λ i _. both_self (a i) (power r (i + i) k) ∙ ap (λ (n : ℕ). both (a i) (power r n k)) (sym (two-mul i))))

module _ (r : ℕ) (pos : 0 < r) where
  pub over-spread : (m : ℕ) (a : Poly) (f : ℕ → Bool) → over r (spread r m a) f ≡ over r a (λ i. f ((m * i) % r))
  unfolding spread
  over-spread m a f = Ring.over-over r a (λ i. power r (m * i)) f ∙ Ring.over_ext r a (λ i _. Ring.over-power r pos (m * i) f)

  pub spread_in : (m : ℕ) (a : Poly) → InRing r (spread r m a)
  unfolding spread
  spread_in m a k past = Ring.over_ext r a (λ i _. Ring.power_in r pos (m * i) k past) ∙ Ring.over_false r a

  pub spread-mod : (m n : ℕ) (a : Poly) → m % r ≡ n % r → spread r m a ≡ spread r n a
  unfolding spread
  spread-mod m n a e =
      fun_ext (λ k. Ring.over_ext r a (λ i _. Ring.power_cong r (m * i) (n * i)
      (rw (mul_comm m i, mul_comm n i, ← mul_mod_mod i m r, ← mul_mod_mod i n r, e)) k))

  pub spread-one : {a : Poly} → InRing r a → spread r 1 a ≡ a
  unfolding spread
  spread-one {a} ha =
      fun_ext (λ k. Ring.over_ext r a (λ i _. ap (λ (n : ℕ). power r n k) (one-mul i)) ∙ Ring.over_powers r pos ha k)

  pub spread-spread : (m n : ℕ) (a : Poly) → spread r m (spread r n a) ≡ spread r (m * n) a
  unfolding spread
  spread-spread m n a =
      fun_ext (λ k. over-spread n a (λ i. power r (m * i) k)
      ∙ Ring.over_ext r a (λ i _.
      Ring.power_cong r (m * ((n * i) % r)) (m * n * i) (rw (mul_assoc m n i) (mul_mod_mod m (n * i) r)) k))

  -- where n is an inverse of m modulo r, coefficient k comes from n k
  pub spread_at : (m n : ℕ) → (m * n) % r ≡ 1 → (a : Poly) (k : ℕ) → k < r → spread r m a k ≡ a ((n * k) % r)
  unfolding spread over power
  spread_at m n unit a k below =
      parity_ext r (λ i low. ap (both (a i)) (eqb_same ((m * i) % r) k i ((n * k) % r) (there i low) (back i low)))
      ∙ parity_pick r a ((n * k) % r) (mod-lt (n * k) pos)
    where
      round : (x y i : ℕ) → (x * y) % r ≡ 1 → i < r → (x * ((y * i) % r)) % r ≡ i
      round x y i e low =
          rw (mul_mod_mod x (y * i) r, ← mul_assoc x y i, mul_comm (x * y) i, ← mul_mod_mod i (x * y) r, e, mul-one i)
          (mod-eq_of_lt low)

      there : (i : ℕ) → i < r → (m * i) % r ≡ k → i ≡ (n * k) % r
      there i low e = rw (← e) (sym (round n m i (ap (λ (p : ℕ). p % r) (mul_comm n m) ∙ unit) low))

      back : (i : ℕ) → i < r → i ≡ (n * k) % r → (m * i) % r ≡ k
      back i low e = rw e (round m n k unit below)

  pub pow_in : (a : Poly) (n : ℕ) → InRing r (pow r a n)
  unfolding pow one
  pow_in a zero = Ring.power_in r pos 0
  pow_in a (suc n) = Ring.mul_in r pos (pow r a n) a

  pub pow-one : (a : Poly) → pow r a 1 ≡ spread r 1 a
  unfolding pow spread
  pow-one a = fun_ext (λ k. Ring.one-over r pos a k ∙ Ring.over_ext r a (λ i _. rw (one-mul i)))

  pub pow_self : {a : Poly} → InRing r a → pow r a 1 ≡ a
  pow_self {a} ha = pow-one a ∙ spread-one ha

  pub pow-add : (a : Poly) (m n : ℕ) → pow r a (m + n) ≡ mul r (pow r a m) (pow r a n)
  unfolding pow
  pow-add a m zero = rw (add-zero m) (sym (Ring.mul_comm r (pow r a m) (one r) ∙ Ring.one-mul r pos (pow_in a m)))
  pow-add a m (suc n) = rw (add-suc m n, pow-add a m n) (Ring.mul_assoc r pos (pow r a m) (pow r a n) a)

  pub pow-mul : (a : Poly) (m n : ℕ) → pow r a (m * n) ≡ pow r (pow r a m) n
  unfolding pow
  pow-mul a m zero = rw (mul-zero m)
  pow-mul a m (suc n) = rw (mul-suc m n, pow-add a (m * n) m, pow-mul a m n)

  -- k squarings
  pub pow_two_pow : (a : Poly) (k : ℕ) → pow r a (2 ^ k) ≡ spread r (2 ^ k) a
  pow_two_pow a zero = pow-one a
  pow_two_pow a (suc k) =
      ap (pow r a) (two-pow-succ k) ∙ pow-add a (2 ^ k) (2 ^ k) ∙ square r (pow r a (2 ^ k)) ∙ ap (spread r 2) (pow_two_pow a k)
      ∙ spread-spread 2 (2 ^ k) a ∙ ap (λ (m : ℕ). spread r m a) (sym (pow-succ' 2 k))
