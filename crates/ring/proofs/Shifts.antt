-- Laws of shifts, and of products before X^r = 1 is applied. Assumes nothing.
use mathlib.Core.Path.{◌≡◌, refl, sym, ap, ap₂, ◌∙◌, fun_ext}
use mathlib.Core.Bool.{Bool, true, false}
use mathlib.Core.Logic.{◌⊎◌, inl, inr, ⊎_elim}
use Prim.Native.Nat.{ℕ, zero, suc, ◌+◌, ◌-◌, ◌*◌, ◌%◌, ◌≤◌, ◌<◌, zero-le}
use native.Mathlib.Nat.{mod-eq_of_lt, mod-eq-sub-mod, add-mod_right, add_comm, mul-zero, mul-suc, sub-zero}
use native.Mathlib.Decide.{dec_le, dec_lt}
use native.Mathlib.Omega.{arith}
use borrow.Author.Tests.{le-leb, lt-leb, eq-eqb, ne_eqb}
use lib.Dec.{leb, eqb}
use Rattle.ring.specs.Polynomials.{Poly, InRing, flip, both, parity, over, power, add, mul}
use Rattle.ring.specs.inner.Wide.{shifted, wide}
use Rattle.ring.proofs.Parity.{both-flip, flip-both, both_false, both_true, flip_false, flip_comm, flip_swap, flip_ends, parity_ext, parity-none, parity-flip, parity-both, parity-split, parity_at}

-- ---- shifts

pub shifted_below : (m : ℕ) (b : Poly) (k : ℕ) → k < m → shifted m b k ≡ false
unfolding shifted
shifted_below m b k h = rw (lt-leb m k h)

pub shifted_from : (m : ℕ) (b : Poly) (k : ℕ) → m ≤ k → shifted m b k ≡ b (k - m)
unfolding shifted
shifted_from m b k h = rw (le-leb m k h)

pub shifted_past : (s m : ℕ) (b : Poly) (k : ℕ) → shifted (s + m) b (s + k) ≡ shifted m b k
shifted_past s m b k = go (dec_lt k m)
  where
    go : Dec (k < m) → shifted (s + m) b (s + k) ≡ shifted m b k
    go (yes below) = shifted_below (s + m) b (s + k) (omega arith) ∙ sym (shifted_below m b k below)
    go (no above) =
        let same : s + k - (s + m) ≡ k - m = omega arith in
        shifted_from (s + m) b (s + k) (omega arith) ∙ ap b same ∙ sym (shifted_from m b k (omega arith))

pub shifted-shifted : (s m : ℕ) (b : Poly) (k : ℕ) → shifted (s + m) b k ≡ shifted s (shifted m b) k
shifted-shifted s m b k = go (dec_lt k s)
  where
    go : Dec (k < s) → shifted (s + m) b k ≡ shifted s (shifted m b) k
    go (yes below) = shifted_below (s + m) b k (omega arith) ∙ sym (shifted_below s (shifted m b) k below)
    go (no above) =
        let back : k ≡ s + (k - s) = omega arith in
        ap (shifted (s + m) b) back ∙ shifted_past s m b (k - s) ∙ sym (shifted_from s (shifted m b) k (omega arith))

pub shifted_swap : (s m : ℕ) (b : Poly) (k : ℕ) → shifted s (shifted m b) k ≡ shifted m (shifted s b) k
shifted_swap s m b k = sym (shifted-shifted s m b k) ∙ ap (λ (n : ℕ). shifted n b k) (add_comm s m) ∙ shifted-shifted m s b k

pub shifted-flip : (s : ℕ) (a b : Poly) (k : ℕ) → shifted s (λ i. flip (a i) (b i)) k ≡ flip (shifted s a k) (shifted s b k)
unfolding shifted
shifted-flip s a b k = both-flip (leb s k) (a (k - s)) (b (k - s))

pub shifted-parity : (s n : ℕ) (f : ℕ → Poly) (k : ℕ) → shifted s (λ i. parity n (λ j. f j i)) k ≡ parity n (λ j. shifted s (f j) k)
unfolding shifted
shifted-parity s n f k = sym (parity-both n (leb s k) (λ j. f j (k - s)))

shifted-both : (s : ℕ) (c : Bool) (b : Poly) (k : ℕ) → both c (shifted s b k) ≡ shifted s (λ i. both c (b i)) k
unfolding shifted
shifted-both s true b k = refl
shifted-both s false b k = sym (both_false (leb s k))

pub shifted_ext : (s : ℕ) (a b : Poly) (k : ℕ) → a (k - s) ≡ b (k - s) → shifted s a k ≡ shifted s b k
unfolding shifted
shifted_ext s a b k h = ap (both (leb s k)) h

pub shifted_none : (s : ℕ) (b : Poly) (k : ℕ) → ((i : ℕ) → b i ≡ false) → shifted s b k ≡ false
unfolding shifted
shifted_none s b k none = ap (both (leb s k)) (none (k - s)) ∙ both_false (leb s k)

-- ---- products before reduction

-- the first s coefficients of a, and then m more
pub wide-split : (s m : ℕ) (a b : Poly) (k : ℕ)
    → wide (s + m) a b k ≡ flip (wide s a b k) (shifted s (wide m (λ i. a (s + i)) b) k)
unfolding wide over
wide-split s m a b k =
    parity-split s m (λ i. both (a i) (shifted i b k))
    ∙ ap (flip (parity s (λ i. both (a i) (shifted i b k))))
    (parity_ext m {f = λ i. both (a (s + i)) (shifted (s + i) b k)} {g = λ i. shifted s (λ j. both (a (s + i)) (shifted i b j)) k}
    (λ i h. ap (both (a (s + i))) (shifted-shifted s i b k) ∙ shifted-both s (a (s + i)) (shifted i b) k)
    ∙ sym (shifted-parity s m (λ i j. both (a (s + i)) (shifted i b j)) k))

pub wide_ext : (n : ℕ) (a a' b : Poly) (k : ℕ) → ((i : ℕ) → i < n → a i ≡ a' i) → wide n a b k ≡ wide n a' b k
unfolding wide over
wide_ext n a a' b k h =
    parity_ext n {f = λ i. both (a i) (shifted i b k)} {g = λ i. both (a' i) (shifted i b k)}
    (λ i below. ap (λ (c : Bool). both c (shifted i b k)) (h i below))

pub wide-none : (n : ℕ) (a b : Poly) (k : ℕ) → ((i : ℕ) → i < n → a i ≡ false) → wide n a b k ≡ false
unfolding wide over
wide-none n a b k h =
    parity-none n (λ i. both (a i) (shifted i b k)) (λ i below. ap (λ (c : Bool). both c (shifted i b k)) (h i below))

pub wide_in : (r n : ℕ) (a b : Poly) → InRing r b → InRing (r + n) (wide n a b)
unfolding wide over
wide_in r n a b inside k h =
    parity-none n (λ i. both (a i) (shifted i b k))
    (λ i below. ap (both (a i)) (shifted_from i b k (omega arith) ∙ inside (k - i) (omega arith)) ∙ both_false (a i))

-- coefficients of 0 add nothing
pub wide_more : (n m : ℕ) (a b : Poly) (k : ℕ) → ((i : ℕ) → n ≤ i → a i ≡ false) → wide (n + m) a b k ≡ wide n a b k
wide_more n m a b k h =
    wide-split n m a b k
    ∙ ap (flip (wide n a b k))
    (shifted_none n (wide m (λ i. a (n + i)) b) k (λ j. wide-none m (λ i. a (n + i)) b j (λ i below. h (n + i) (omega arith))))
    ∙ flip_false (wide n a b k)

-- n blocks of w coefficients
pub wide-blocks : (w n : ℕ) (a b : Poly) (k : ℕ) → wide (w * n) a b k ≡ parity n (λ j. shifted (w * j) (wide w (λ e. a (w * j + e)) b) k)
unfolding wide over parity
wide-blocks w zero a b k = rw mul-zero refl
wide-blocks w (suc n) a b k =
    rw (mul-suc w n) (wide-split (w * n) w a b k)
    ∙ ap (λ (p : Bool). flip p (shifted (w * n) (wide w (λ e. a (w * n + e)) b) k)) (wide-blocks w n a b k)

-- ---- sums

pub shifted_zero : (b : Poly) → shifted 0 b ≡ b
shifted_zero b = fun_ext (λ k. shifted_from 0 b k zero-le ∙ ap b (sub-zero k))

add_wide : (n : ℕ) (a a' b : Poly) (k : ℕ) → wide n (add a a') b k ≡ flip (wide n a b k) (wide n a' b k)
unfolding wide over add
add_wide n a a' b k =
    parity_ext n {f = λ i. both (flip (a i) (a' i)) (shifted i b k)} {g = λ i. flip (both (a i) (shifted i b k)) (both (a' i) (shifted i b k))}
    (λ i h. flip-both (a i) (a' i) (shifted i b k))
    ∙ parity-flip n (λ i. both (a i) (shifted i b k)) (λ i. both (a' i) (shifted i b k))

wide-add : (n : ℕ) (a b b' : Poly) (k : ℕ) → wide n a (add b b') k ≡ flip (wide n a b k) (wide n a b' k)
unfolding wide over add
wide-add n a b b' k =
    parity_ext n {f = λ i. both (a i) (shifted i (λ j. flip (b j) (b' j)) k)} {g = λ i. flip (both (a i) (shifted i b k)) (both (a i) (shifted i b' k))}
    (λ i h. ap (both (a i)) (shifted-flip i b b' k) ∙ both-flip (a i) (shifted i b k) (shifted i b' k))
    ∙ parity-flip n (λ i. both (a i) (shifted i b k)) (λ i. both (a i) (shifted i b' k))

wide-shifted : (n s : ℕ) (a b : Poly) (k : ℕ) → wide n a (shifted s b) k ≡ shifted s (wide n a b) k
unfolding wide over
wide-shifted n s a b k =
    parity_ext n {f = λ i. both (a i) (shifted i (shifted s b) k)} {g = λ i. shifted s (λ j. both (a i) (shifted i b j)) k}
    (λ i h. ap (both (a i)) (shifted_swap i s b k) ∙ shifted-both s (a i) (shifted i b) k)
    ∙ sym (shifted-parity s n (λ i j. both (a i) (shifted i b j)) k)

-- Karatsuba: the product of two factors in halves of h coefficients, from three products of such halves
module _ (h : ℕ) (a0 a1 b0 b1 : Poly) where
  abbrev low : Poly
  low = wide h a0 b0

  abbrev high : Poly
  high = wide h a1 b1

  abbrev mid : Poly
  mid = wide h (add a0 a1) (add b0 b1)

  -- what is left of the third product without the other two
  crossed : (k : ℕ) → flip (flip (mid k) (low k)) (high k) ≡ flip (wide h a0 b1 k) (wide h a1 b0 k)
  crossed k =
      ap (λ (m : Bool). flip (flip m (low k)) (high k))
      (add_wide h a0 a1 (add b0 b1) k ∙ ap₂ flip (wide-add h a0 b0 b1 k) (wide-add h a1 b0 b1 k))
      ∙ flip_ends (low k) (wide h a0 b1 k) (wide h a1 b0 k) (high k)

  pub karatsuba : (a b : Poly) → ((i : ℕ) → i < h → a i ≡ a0 i) → ((i : ℕ) → a (h + i) ≡ a1 i) → b ≡ add b0 (shifted h b1)
      → add (add low (shifted (h + h) high)) (shifted h (add (add mid low) high)) ≡ wide (h + h) a b
  unfolding add
  karatsuba a b first second parts = fun_ext (λ k.
      let below : Poly = wide h a0 b1 in
      let above : Poly = wide h a1 b0 in
      let times : (c : Poly) (i : ℕ) → wide h c b i ≡ flip (wide h c b0 i) (shifted h (wide h c b1) i) = λ c i.
      ap (λ (d : Poly). wide h c d i) parts ∙ wide-add h c b0 (shifted h b1) i ∙ ap (flip (wide h c b0 i)) (wide-shifted h h c b1 i) in
      ap (flip (flip (low k) (shifted (h + h) high k)))
      (ap (λ (p : Poly). shifted h p k) (fun_ext crossed) ∙ shifted-flip h below above k)
      ∙ sym (flip_swap (low k) (shifted h below k) (shifted (h + h) high k) (shifted h above k))
      ∙ ap (flip (flip (low k) (shifted h below k)))
      (flip_comm (shifted (h + h) high k) (shifted h above k) ∙ ap (flip (shifted h above k)) (shifted-shifted h h high k)
      ∙ sym (shifted-flip h above (shifted h high) k) ∙ ap (λ (p : Poly). shifted h p k) (fun_ext (λ i.
      sym (wide_ext h (λ i. a (h + i)) a1 b i (λ i less. second i) ∙ times a1 i))))
      ∙ ap (λ (p : Bool). flip p (shifted h (wide h (λ i. a (h + i)) b) k)) (sym (wide_ext h a a0 b k first ∙ times a0 k))
      ∙ sym (wide-split h h a b k))

-- ---- reduction

wrapped : (r x k : ℕ) → x < r + r → k < r → x % r ≡ k → (x ≡ k) ⊎ (x ≡ k + r)
wrapped r x k small h e = go (dec_lt x r)
  where
    go : Dec (x < r) → (x ≡ k) ⊎ (x ≡ k + r)
    go (yes below) = inl (sym (mod-eq_of_lt below) ∙ e)
    go (no above) =
        let high : r ≤ x = omega arith in
        let less : x - r < r = omega arith in
        let rest : x - r ≡ k = sym (mod-eq_of_lt less) ∙ sym (mod-eq-sub-mod high) ∙ e in
        inr (omega arith)

-- one exponent j of b meets i at k: k - i, or k + r - i
pub meets : (r i k : ℕ) (b : Poly) → InRing r b → i < r → k < r
    → over r b (λ j. power r (i + j) k) ≡ flip (shifted i b k) (shifted i b (k + r))
unfolding over power
meets r i k b inside hi hk = go (dec_le i k)
  where
    at : (m : ℕ) → m < r → (i + m) % r ≡ k → ((j : ℕ) → j < r → (i + j ≡ k) ⊎ (i + j ≡ k + r) → j ≡ m)
        → parity r (λ j. both (b j) (eqb ((i + j) % r) k)) ≡ b m
    at m hm e only =
        parity_at r m (λ j. both (b j) (eqb ((i + j) % r) k)) hm
        (λ j hj other. ap (both (b j)) (ne_eqb ((i + j) % r) k (λ q. other (only j hj (wrapped r (i + j) k (omega arith) hk q)))) ∙ both_false (b j))
        ∙ ap (both (b m)) (eq-eqb ((i + m) % r) k e) ∙ both_true (b m)

    go : Dec (i ≤ k) → parity r (λ j. both (b j) (eqb ((i + j) % r) k)) ≡ flip (shifted i b k) (shifted i b (k + r))
    go (yes below) =
        let same : i + (k - i) ≡ k = omega arith in
        at (k - i) (omega arith) (ap (λ (x : ℕ). x % r) same ∙ mod-eq_of_lt hk) (λ j hj. ⊎_elim (λ e. omega arith) (λ e. omega arith))
        ∙ sym (flip_false (b (k - i)))
        ∙ sym (ap₂ flip (shifted_from i b k below) (shifted_from i b (k + r) (omega arith) ∙ inside (k + r - i) (omega arith)))
    go (no above) =
        let same : i + (k + r - i) ≡ k + r = omega arith in
        at (k + r - i) (omega arith) (ap (λ (x : ℕ). x % r) same ∙ add-mod_right k r ∙ mod-eq_of_lt hk)
        (λ j hj. ⊎_elim (λ e. omega arith) (λ e. omega arith))
        ∙ sym (ap₂ flip (shifted_below i b k (omega arith)) (shifted_from i b (k + r) (omega arith)))

-- "the product adds exponents modulo r": below r, coefficient k has what stood at k and at k + r
pub mul_wide : (r : ℕ) (a b : Poly) (k : ℕ) → InRing r b → k < r
    → mul r a b k ≡ flip (wide r a b k) (wide r a b (k + r))
unfolding mul over wide
mul_wide r a b k inside h =
    parity_ext r {f = λ i. both (a i) (over r b (λ j. power r (i + j) k))} {g = λ i. flip (both (a i) (shifted i b k)) (both (a i) (shifted i b (k + r)))}
    (λ i below. ap (both (a i)) (meets r i k b inside below h) ∙ both-flip (a i) (shifted i b k) (shifted i b (k + r)))
    ∙ parity-flip r (λ i. both (a i) (shifted i b k)) (λ i. both (a i) (shifted i b (k + r)))
