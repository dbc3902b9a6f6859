-- A map of the numbers below n into themselves that takes no two to one takes some number to each. Assumes nothing.
use mathlib.Core.Path.{◌≡◌, sym, ◌∙◌}
use Prim.Native.Nat.{ℕ, zero, suc, ◌<◌}
use native.Mathlib.Nat.{le_refl, not-suc-le-zero}
use native.Mathlib.Decide.{ℕ_discrete}
use native.Mathlib.Omega.{arith}

pub record Apart (n : ℕ) (f : ℕ → ℕ) : Type 0 where
  pub within : (i : ℕ) → i < n → f i < n
  pub apart : (i j : ℕ) → i < n → j < n → f i ≡ f j → i ≡ j

-- f with the value at n in the place of n, so that it stays below n
lower : ℕ → (ℕ → ℕ) → ℕ → ℕ
lower n f i = elim (ℕ_discrete (f i) n) [ yes _ ↦ f n | no _ ↦ f i ]

module _ (n : ℕ) (f : ℕ → ℕ) (is : Apart (suc n) f) where
  -- only n itself goes where n goes
  alone : (i : ℕ) → i < n → f i ≡ f n → ⊥
  alone i below e = let same : i ≡ n = is.apart i n (omega arith) (le_refl (suc n)) e in omega arith

  lower_apart : Apart n (lower n f)
  unfolding lower
  lower_apart =
      record {
        within = λ i below. inside i below (ℕ_discrete (f i) n);
        apart = λ i j low high e. same i j low high (ℕ_discrete (f i) n) (ℕ_discrete (f j) n) e;
      }
    where
      at : (i : ℕ) → Dec (f i ≡ n) → ℕ
      at i t = elim t [ yes _ ↦ f n | no _ ↦ f i ]

      inside : (i : ℕ) → i < n → (t : Dec (f i ≡ n)) → at i t < n
      inside i below (yes top) =
          let within : f n < suc n = is.within n (le_refl (suc n)) in
          let other : f n ≡ n → ⊥ = λ e. alone i below (top ∙ sym e) in
          omega arith
      inside i below (no other) = let within : f i < suc n = is.within i (omega arith) in omega arith

      same : (i j : ℕ) → i < n → j < n → (s : Dec (f i ≡ n)) → (t : Dec (f j ≡ n)) → at i s ≡ at j t → i ≡ j
      same i j low high (yes top) (yes top') e = is.apart i j (omega arith) (omega arith) (top ∙ sym top')
      same i j low high (yes top) (no other) e = absurd (alone j high (sym e))
      same i j low high (no other) (yes top) e = absurd (alone i low e)
      same i j low high (no other) (no other') e = is.apart i j (omega arith) (omega arith) e

  -- where f takes some number to j if the lowered map does to each number below n
  reached : ((j : ℕ) → j < n → (i : ℕ) × (i < n) × (lower n f i ≡ j)) → (j : ℕ) → j < suc n → (i : ℕ) × (i < suc n) × (f i ≡ j)
  unfolding lower
  reached onto j below = go (ℕ_discrete j (f n)) (ℕ_discrete j n)
    where
      back : (i : ℕ) → i < n → (t : Dec (f i ≡ n)) → (j ≡ f n → ⊥) → elim t [ yes _ ↦ f n | no _ ↦ f i ] ≡ j → f i ≡ j
      back i low (yes top) other e = absurd (other (sym e))
      back i low (no _) other e = e

      top : (i : ℕ) → i < n → (t : Dec (f i ≡ n)) → elim t [ yes _ ↦ f n | no _ ↦ f i ] ≡ f n → f i ≡ n
      top i low (yes is) e = is
      top i low (no _) e = absurd (alone i low e)

      go : Dec (j ≡ f n) → Dec (j ≡ n) → (i : ℕ) × (i < suc n) × (f i ≡ j)
      go (yes last) _ = (n, le_refl (suc n), sym last)
      go (no other) (yes high) =
          let within : f n < suc n = is.within n (le_refl (suc n)) in
          let from = onto (f n) (omega arith) in
          (from.0, omega (arith, from.1), top from.0 from.1 (ℕ_discrete (f from.0) n) from.2 ∙ sym high)
      go (no other) (no low) =
          let from = onto j (omega arith) in
          (from.0, omega (arith, from.1), back from.0 from.1 (ℕ_discrete (f from.0) n) other from.2)

pub pigeonhole : (n : ℕ) (f : ℕ → ℕ) → Apart n f → (j : ℕ) → j < n → (i : ℕ) × (i < n) × (f i ≡ j)
pigeonhole zero f is j below = absurd (not-suc-le-zero below)
pigeonhole (suc n) f is j below = reached n f is (pigeonhole n (lower n f) (lower_apart n f is)) j below
