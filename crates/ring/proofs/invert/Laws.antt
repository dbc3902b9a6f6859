-- What the code of the inverse rests on. Assumes nothing.
use mathlib.Core.Path.{◌≡◌, refl, sym, ap, ap₂, fun_ext, ◌∙◌}
use mathlib.Core.Bool.{Bool, true, false}
use mathlib.Core.List.{List}
use Prim.Native.Nat.{ℕ, zero, suc, ◌+◌, ◌*◌, ◌-◌, ◌/◌, ◌%◌, ◌^◌, ◌≤◌, ◌<◌}
use native.Mathlib.Nat.{zero-mod, le_antisymm, div-eq_of_lt, le-div_iff_mul-le, one-mul}
use native.Mathlib.Decide.{dec_lt, ℕ_discrete}
use native.Mathlib.Numerals.{add-one, one-add}
use native.Mathlib.Omega.{arith}
use lib.Bits.{bit_xor}
use lib.Count.{count_leading_zeros, leading_top}
use lib.Dec.{eqb, lit<}
use lib.ListN.{length, get_or, set}
use lib.Pow.{pow_pos, pow_mono, shr_lt, shr-shr}
use borrow.Author.Tests.{ne_eqb}
use Rattle.std.specs.Bool.{then_some}
use Rattle.std.specs.Prelude.{is_some, IfSome}
use Rattle.hashing.proofs.Words.{bit_above}
use Rattle.hashing.specs.Lists.{bit_at, bits}
use Rattle.ring.specs.Polynomials.{Poly, InRing, Tells, flip, one, power, add, mul, has_inverse, inverse_of}
use Rattle.ring.specs.Chain.{Rung, doubled, longer, climb, digits, top}
use Rattle.ring.proofs.Parity.{flip_false, flip_self}
use Rattle.ring.proofs.Ring
use Rattle.ring.proofs.Chains.{top_one, next_span}
use Rattle.ring.proofs.Inverses.{candidate, inverse_found, candidate-inverts, test_passes, test_fails}
use Rattle.ring.proofs.Packed.{bit-flip, bits_set_same, bits_set_other}

-- only the highest digit has nothing above it
top_only : (u n : ℕ) → 0 < u → u / 2 ^ n ≡ 1 → n ≡ top u
top_only u n some e = le_antisymm (order n (top u) (top_one u some) e) (order (top u) n e (top_one u some))
  where
    order : (i j : ℕ) → u / 2 ^ j ≡ 1 → u / 2 ^ i ≡ 1 → i ≤ j
    order i j p q = go (dec_lt j i)
      where
        go : Dec (j < i) → i ≤ j
        go (no least) = omega arith
        go (yes more) =
            let apart : j + (i - j) ≡ i = omega arith in
            let two : 2 ^ 1 ≤ 2 ^ (i - j) = pow_mono {i = 1} {j = i - j} (omega arith) in
            let none : u / 2 ^ i ≡ 0 = ap (λ (m : ℕ). u / 2 ^ m) (sym apart) ∙ sym (shr-shr u j (i - j)) ∙ rw p (div-eq_of_lt (omega arith)) in
            omega arith

pub top_leading : (u : ℕ) → 0 < u → u < 2 ^ 64 → 63 - count_leading_zeros 64 u ≡ top u
top_leading u some small =
    let found = leading_top 64 u some small in
    let place : 63 - count_leading_zeros 64 u ≡ found.0 = omega arith in
    let low : 1 ≤ u / 2 ^ found.0 = (le-div_iff_mul-le (pow_pos found.0)).1 (rw (one-mul (2 ^ found.0)) found.2) in
    let high : u / 2 ^ found.0 < 2 ^ 1 = shr_lt 1 found.0 (rw (one-add found.0) found.3) in
    place ∙ top_only u found.0 some (omega arith)

-- the next rung of the chain, by the digit n of u
module _ (r : ℕ) (a : Poly) (u n : ℕ) where
  pub next_rung : (x : Poly) (count : ℕ) →
      let e : Rung = record { value = x; span = u / 2 ^ (n + 1); products = count } in
      let next = longer r a (bit_at u n) (doubled r e) in
      climb r a e (digits (n + 1) u) ≡ climb r a (record { value = next.value; span = u / 2 ^ n; products = next.products }) (digits n u)
  unfolding climb digits
  next_rung x count =
      let e : Rung = record { value = x; span = u / 2 ^ suc n; products = count } in
      let next : Rung = longer r a (bit_at u n) (doubled r e) in
      rw (add-one n)
      (ap (λ (l : ℕ). climb r a (record { value = next.value; span = l; products = next.products }) (digits n u))
      (next_span r a u n e refl))

-- which takes two products at most
pub rung_price : (r : ℕ) (a : Poly) (digit : Bool) (e : Rung) (n most : ℕ) → e.products + 2 * (n + 1) < most
    → (longer r a digit (doubled r e)).products + 2 * n < most
unfolding longer doubled
rung_price r a true e n most few = omega (arith, few)
rung_price r a false e n most few = omega (arith, few)

pub rung_in : (r : ℕ) → 0 < r → (a : Poly) (digit : Bool) (e : Rung) → InRing r (longer r a digit (doubled r e)).value
unfolding longer doubled
rung_in r pos a true e = Ring.mul_in r pos _ _
rung_in r pos a false e = Ring.mul_in r pos _ _

-- to flip bit 0 is to add 1
pub flip_first : (r : ℕ) (xs : List ℕ) → 0 < length xs → bits 64 (set xs 0 (bit_xor (get_or xs 0 0) 1)) ≡ add (bits 64 xs) (one r)
unfolding add one power bits bit_at
flip_first r xs some = fun_ext (λ k. rw (zero-mod r) (go k (ℕ_discrete (k / 64) 0)))
  where
    first : (k : ℕ) → bit_at 1 k ≡ eqb 0 k
    first zero = refl
    first (suc k) = bit_above 1 1 (suc k) (lit< tt) (omega arith) ∙ sym (ne_eqb 0 (suc k) (λ e. omega arith))

    go : (k : ℕ) → Dec (k / 64 ≡ 0) → bits 64 (set xs 0 (bit_xor (get_or xs 0 0) 1)) k ≡ flip (bits 64 xs k) (eqb 0 k)
    go k (yes same) =
        let low : k % 64 ≡ k = omega arith in
        bits_set_same xs 0 (bit_xor (get_or xs 0 0) 1) some k same ∙ bit-flip (get_or xs 0 0) 1 (k % 64)
        ∙ ap₂ flip (sym (ap (λ (i : ℕ). bit_at (get_or xs i 0) (k % 64)) same)) (ap (bit_at 1) low ∙ first k)
    go k (no other) =
        bits_set_other xs 0 (bit_xor (get_or xs 0 0) 1) k other
        ∙ sym (ap (flip (bits 64 xs k)) (ne_eqb 0 k (λ e. omega arith)) ∙ flip_false (bits 64 xs k))

pub one_tells : (r : ℕ) (a : Poly) (t : Bool) → Tells t (add a (one r) ≡ (λ k. false)) → Tells t (a ≡ one r)
unfolding add
one_tells r a t told =
    record {
      holds = λ e. sym (fun_ext (λ k. flip_false (a k))) ∙ ap (add a) (sym (told.holds e)) ∙ Ring.add_cancel a (one r);
      fails = λ e is. told.fails e (fun_ext (λ k. rw is (flip_self (one r k))));
    }

-- the product with a decides
module _ (r : ℕ) (pos : 0 < r) (cycle : 2 ^ (r - 1) % r ≡ 1) {a : Poly} (ha : InRing r a) where
  pub decided : (x : List ℕ) {m : Poly} → bits 64 x ≡ candidate r a → m ≡ mul r a (bits 64 x) → (t : Bool) → Tells t (m ≡ one r)
      → (is_some (then_some t x) ≡ has_inverse r a) × IfSome (then_some t x) (λ value. bits 64 value ≡ inverse_of r a)
  decided x is product true told =
      let passes = test_passes r pos a (ap (mul r a) (sym is) ∙ sym product ∙ told.holds refl) in
      (sym passes.0, is ∙ sym passes.1)
  decided x is product false told =
      let fails = test_fails r pos cycle ha (λ e. told.fails refl (product ∙ ap (mul r a) is ∙ e)) in
      (sym fails, tt)

  -- and need not, where a is known to have an inverse
  pub unit_inverse : has_inverse r a ≡ true → candidate r a ≡ inverse_of r a
  unit_inverse has = sym (test_passes r pos a (candidate-inverts r pos cycle ha (inverse_found r pos a has))).1
