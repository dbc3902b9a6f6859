-- Inverses: there is at most one; the search through the ring finds it; and where 2^(r-1) mod r = 1 the power a^(2^(r-1) - 2) is
-- the inverse of a, or a has none. Assumes nothing.
use mathlib.Core.Path.{◌≡◌, refl, sym, ap, ◌∙◌}
use mathlib.Core.Bool.{Bool, true, false, not, ◌||◌, true≢false}
use Prim.Native.Nat.{ℕ, zero, suc, ◌+◌, ◌-◌, ◌*◌, ◌%◌, ◌^◌, ◌≤◌, ◌<◌}
use native.Mathlib.Nat.{le_refl, not-suc-le-zero, mod-eq_of_lt}
use native.Mathlib.Decide.{dec_lt, ℕ_discrete}
use native.Mathlib.Omega.{arith}
use lib.Pow.{pow-add, pow_mono, ones_split}
use Rattle.hashing.proofs.Words.{bit_above}
use Rattle.hashing.specs.Lists.{bit_at}
use Rattle.ring.specs.Polynomials.{Poly, InRing, IsInverse, flip, both, one, mul, spread, pow, same, some_below, first_below, inverts, has_inverse, inverse_of}
use Rattle.ring.specs.Bytes.{number}
use Rattle.ring.proofs.Binary.{bit_at-number, number_lt}
use Rattle.ring.proofs.Parity.{flip_self}
use Rattle.ring.proofs.Ring
use Rattle.ring.proofs.Powers

both_true : (a b : Bool) → both a b ≡ true → (a ≡ true) × (b ≡ true)
both_true true b e = (refl, e)
both_true false b e = absurd (true≢false (sym e))

flip_not : (a b : Bool) → not (flip a b) ≡ true → a ≡ b
flip_not true true e = refl
flip_not true false e = absurd (true≢false (sym e))
flip_not false true e = absurd (true≢false (sym e))
flip_not false false e = refl

-- the test of equality below r
same_of : (r : ℕ) (a b : Poly) → ((k : ℕ) → k < r → a k ≡ b k) → same r a b ≡ true
unfolding same
same_of zero a b h = refl
same_of (suc r) a b h = rw (same_of r a b (λ k below. h k (omega arith)), h r (le_refl (suc r)), flip_self (b r))

pub same_true : (r : ℕ) (a b : Poly) → same r a b ≡ true → (k : ℕ) → k < r → a k ≡ b k
unfolding same
same_true zero a b e k below = absurd (not-suc-le-zero below)
same_true (suc r) a b e k below = go (both_true (same r a b) (not (flip (a r) (b r))) e) (same_true r a b) (ℕ_discrete k r)
  where
    go : (same r a b ≡ true) × (not (flip (a r) (b r)) ≡ true) → (same r a b ≡ true → (i : ℕ) → i < r → a i ≡ b i) → Dec (k ≡ r)
        → a k ≡ b k
    go t before (yes last) = rw last (flip_not (a r) (b r) t.1)
    go t before (no other) = before t.0 k (omega arith)

-- polynomials of the ring that pass the test are equal
pub same-equal : (r : ℕ) {a b : Poly} → InRing r a → InRing r b → same r a b ≡ true → a ≡ b
same-equal r {a} {b} ha hb e = Ring.ring_ext r ha hb (same_true r a b e)

-- the search
pub some_of : (n : ℕ) (f : ℕ → Bool) (i : ℕ) → i < n → f i ≡ true → some_below n f ≡ true
unfolding some_below
some_of zero f i below e = absurd (not-suc-le-zero below)
some_of (suc n) f i below e = go (ℕ_discrete i n) (some_of n f i)
  where
    or-true : (b : Bool) → b || true ≡ true
    or-true true = refl
    or-true false = refl

    go : Dec (i ≡ n) → (i < n → f i ≡ true → some_below n f ≡ true) → some_below n f || f n ≡ true
    go (yes last) before = rw (← last, e) (or-true (some_below i f))
    go (no other) before = rw (before (omega arith) e)

pub first_found : (n : ℕ) (f : ℕ → Bool) → some_below n f ≡ true → (first_below n f < n) × (f (first_below n f) ≡ true)
unfolding some_below first_below
first_found zero f e = absurd (true≢false (sym e))
first_found (suc n) f e = go (some_below n f) (first_found n f) e
  where
    pick : Bool → ℕ
    pick b = elim b [ true ↦ first_below n f | false ↦ n ]

    go : (b : Bool) → (b ≡ true → (first_below n f < n) × (f (first_below n f) ≡ true)) → b || f n ≡ true
        → (pick b < suc n) × (f (pick b) ≡ true)
    go true before e = (omega (arith, (before refl).0), (before refl).1)
    go false before e = (le_refl (suc n), e)

-- where a search through the numbers below n stops: at the first that holds, or at n
pub record Stops (n : ℕ) (f : ℕ → Bool) (i : ℕ) : Type 0 where
  pub within : i ≤ n
  pub before : (j : ℕ) → j < i → f j ≡ false
  pub holds : i < n → f i ≡ true

pub first_stops : (n : ℕ) (f : ℕ → Bool) → Stops n f (first_below (suc n) f)
unfolding first_below some_below
first_stops zero f =
    record {
      within = le_refl 0;
      before = λ j below. absurd (not-suc-le-zero below);
      holds = λ below. absurd (not-suc-le-zero below);
    }
first_stops (suc n) f = go (some_below (suc n) f) refl (first_stops n f)
  where
    other : (b : Bool) → (b ≡ true → ⊥) → b ≡ false
    other true never = absurd (never refl)
    other false never = refl

    go : (b : Bool) → some_below (suc n) f ≡ b → Stops n f (first_below (suc n) f)
        → Stops (suc n) f (elim b [ true ↦ first_below (suc n) f | false ↦ suc n ])
    go true some stops =
        record {
          within = omega (arith, stops.within);
          before = stops.before;
          holds = λ _. (first_found (suc n) f some).1;
        }
    go false none stops =
        record {
          within = le_refl (suc n);
          before = λ j below. other (f j) (λ e. true≢false (sym (some_of (suc n) f j below e) ∙ none));
          holds = λ below. absurd (omega arith);
        }

pub stops_once : {n : ℕ} {f : ℕ → Bool} {i j : ℕ} → Stops n f i → Stops n f j → i ≡ j
stops_once {n} {f} {i} {j} one two = go (dec_lt i j) (dec_lt j i)
  where
    not_both : {b : Bool} → b ≡ true → b ≡ false → ⊥
    not_both holds fails = true≢false (sym holds ∙ fails)

    go : Dec (i < j) → Dec (j < i) → i ≡ j
    go (yes below) _ = absurd (not_both (one.holds (omega (arith, two.within))) (two.before i below))
    go (no _) (yes below) = absurd (not_both (two.holds (omega (arith, one.within))) (one.before j below))
    go (no here) (no there) = omega arith

-- the power that is the inverse where there is one
abbrev pub candidate : ℕ → Poly → Poly
candidate r a = pow r a (2 ^ (r - 1) - 2)

module _ (r : ℕ) (pos : 0 < r) where
  pub inverse_unique : {a b c : Poly} → IsInverse r a b → IsInverse r a c → b ≡ c
  inverse_unique {a} {b} {c} hb hc =
      sym (Ring.one-mul r pos hb.inside) ∙ ap (λ (p : Poly). mul r p b) (sym hc.product ∙ Ring.mul_comm r a c)
      ∙ Ring.mul_assoc r pos c a b ∙ ap (mul r c) hb.product ∙ Ring.mul_comm r c (one r) ∙ Ring.one-mul r pos hc.inside

  -- what the search finds
  pub inverse_found : (a : Poly) → has_inverse r a ≡ true → IsInverse r a (inverse_of r a)
  unfolding has_inverse inverse_of inverts one
  inverse_found a e =
      let n = first_below (2 ^ r) (inverts r a) in
      let found = first_found (2 ^ r) (inverts r a) e in
      record {
        inside = λ k past. bit_above n r k found.0 past;
        product = same-equal r (Ring.mul_in r pos a (bit_at n)) (Ring.power_in r pos 0) found.1;
      }

  pub inverse_exists : {a b : Poly} → IsInverse r a b → has_inverse r a ≡ true
  unfolding has_inverse inverts
  inverse_exists {a} {b} hb =
      some_of (2 ^ r) (inverts r a) (number r b) (number_lt r b)
      (same_of r (mul r a (bit_at (number r b))) (one r) (λ k _. ap (λ (p : Poly). p k) (ap (mul r a) digits ∙ hb.product)))
    where
      digits : bit_at (number r b) ≡ b
      digits = Ring.ring_ext r (λ k past. bit_above (number r b) r k (number_lt r b) past) hb.inside (bit_at-number r b)

  pub no_inverse : {a b : Poly} → has_inverse r a ≡ false → IsInverse r a b → ⊥
  no_inverse e hb = true≢false (sym (inverse_exists hb) ∙ e)

  pub inverse_is : {a b : Poly} → IsInverse r a b → inverse_of r a ≡ b
  inverse_is {a} hb = inverse_unique (inverse_found a (inverse_exists hb)) hb

  -- f(k) = a^(2^k - 1) is built by f(j + k) = f(j)^(2^k) f(k), and its square is a^(2^(k+1) - 2)
  pub ones_add : (a : Poly) (j k : ℕ)
      → pow r a (2 ^ (j + k) - 1) ≡ mul r (spread r (2 ^ k) (pow r a (2 ^ j - 1))) (pow r a (2 ^ k - 1))
  ones_add a j k =
      ap (pow r a) (ones_split j k) ∙ Powers.pow-add r pos a ((2 ^ j - 1) * 2 ^ k) (2 ^ k - 1)
      ∙ ap (λ (p : Poly). mul r p (pow r a (2 ^ k - 1)))
      (Powers.pow-mul r pos a (2 ^ j - 1) (2 ^ k) ∙ Powers.pow_two_pow r pos (pow r a (2 ^ j - 1)) k)

  pub ones_square : (a : Poly) (k : ℕ) → spread r 2 (pow r a (2 ^ k - 1)) ≡ pow r a (2 ^ (k + 1) - 2)
  ones_square a k =
      let twice : 2 ^ (k + 1) ≡ 2 ^ k * 2 = pow-add 2 k 1 in
      let even : (2 ^ k - 1) * 2 ≡ 2 ^ (k + 1) - 2 = omega arith in
      sym (Powers.pow_two_pow r pos (pow r a (2 ^ k - 1)) 1) ∙ sym (Powers.pow-mul r pos a (2 ^ k - 1) 2) ∙ ap (pow r a) even

  pub ones_end : (a : Poly) → 1 < r → spread r 2 (pow r a (2 ^ (r - 2) - 1)) ≡ candidate r a
  ones_end a big = ones_square a (r - 2) ∙ ap (λ (n : ℕ). pow r a (2 ^ n - 2)) (omega arith)

  -- the test a · candidate = 1 decides
  pub test_passes : (a : Poly) → mul r a (candidate r a) ≡ one r → (has_inverse r a ≡ true) × (inverse_of r a ≡ candidate r a)
  test_passes a e =
      let found : IsInverse r a (candidate r a) = record { inside = Powers.pow_in r pos a (2 ^ (r - 1) - 2); product = e } in
      (inverse_exists found, inverse_is found)

  module _ (cycle : 2 ^ (r - 1) % r ≡ 1) where
    cycle_big : 1 < r
    cycle_big = go (dec_lt 1 r)
      where
        go : Dec (1 < r) → 1 < r
        go (yes big) = big
        go (no small) =
            let only : r ≡ 1 = omega arith in
            let wrong : ◌≡◌ {A = ℕ} 0 1 = rw only at cycle in
            omega arith

    pub pow_cycle : {a : Poly} → InRing r a → pow r a (2 ^ (r - 1)) ≡ a
    pow_cycle {a} ha =
        Powers.pow_two_pow r pos a (r - 1) ∙ Powers.spread-mod r pos (2 ^ (r - 1)) 1 a (cycle ∙ sym (mod-eq_of_lt cycle_big))
        ∙ Powers.spread-one r pos ha

    -- a times the candidate keeps a, with an inverse or without
    pub candidate_back : {a : Poly} → InRing r a → mul r (mul r (candidate r a) a) a ≡ a
    unfolding pow
    candidate_back {a} ha =
        let n : ℕ = 2 ^ (r - 1) - 2 in
        let two : 2 ^ 1 ≤ 2 ^ (r - 1) = pow_mono {i = 1} {j = r - 1} (omega (arith, cycle_big)) in
        let whole : suc (suc n) ≡ 2 ^ (r - 1) = omega arith in
        ap (pow r a) whole ∙ pow_cycle ha

    pub candidate-inverts : {a b : Poly} → InRing r a → IsInverse r a b → mul r a (candidate r a) ≡ one r
    candidate-inverts {a} {b} ha hb =
        let q : Poly = candidate r a in
        Ring.mul_comm r a q ∙ sym (Ring.one-mul r pos (Ring.mul_in r pos q a)) ∙ Ring.mul_comm r (one r) (mul r q a)
        ∙ ap (mul r (mul r q a)) (sym hb.product) ∙ sym (Ring.mul_assoc r pos (mul r q a) a b)
        ∙ ap (λ (p : Poly). mul r p b) (candidate_back ha) ∙ hb.product

    pub test_fails : {a : Poly} → InRing r a → (mul r a (candidate r a) ≡ one r → ⊥) → has_inverse r a ≡ false
    test_fails {a} ha fails = go (has_inverse r a) refl
      where
        go : (t : Bool) → has_inverse r a ≡ t → has_inverse r a ≡ false
        go true e = absurd (fails (candidate-inverts ha (inverse_found a e)))
        go false e = e
