-- The register of 3.2.5 as a number: its steps, and the constants that are read from it. Assumes nothing.
use mathlib.Core.Path.{◌≡◌, refl, sym, ap, ◌∙◌}
use mathlib.Core.Bool.{true}
use mathlib.Core.List.{List, [], ◌∷◌}
use Prim.Native.Nat.{ℕ, ◌+◌, ◌-◌, ◌*◌, ◌%◌, ◌^◌, ◌≤◌, ◌<◌}
use native.Mathlib.Nat.{mod-lt, mod-eq_of_lt, add-zero, add_assoc, div-one, mul-le-mul_right, one-mul}
use native.Mathlib.Numerals.{add-one}
use native.Mathlib.Omega.{arith}
use lib.Dec.{ltb, leb, lit<}
use lib.ListN.{get_or, take}
use borrow.Author.Tests.{ltb-true, leb-true}
use Rattle.hashing.specs.Keccak.{tap, register, rc, constant_within, round_constant}
use Rattle.hashing.specs.Lists.{tab}
use Rattle.hashing.specs.inner.Constants.{digits, fed_back, next, Steps, Begins, ConstantOf}
use Rattle.hashing.proofs.Lists.{get_or-tab, from_table}

-- two rules that agree in a computed table agree
agree {ℓ} : {A : Type ℓ} (n : ℕ) (f g : ℕ → A) (d : A) → tab n f ≡ tab n g → (i : ℕ) → i < n → f i ≡ g i
agree n f g d same i h = sym (get_or-tab n f d i h) ∙ from_table n g d same i h

-- ---- steps

-- a step of algorithm 5 on the register as a list
fed : List ℕ → List ℕ
fed R = take 8 (tap 6 (tap 5 (tap 4 (tap 0 (0 ∷ R)))))

all_steps : tab 256 (λ r. digits (next r)) ≡ tab 256 (λ r. fed (digits r))
unfolding tab digits next fed_back tap fed
all_steps = refl

pub one_step : (r : ℕ) → r < 256 → Steps 1 r (next r)
unfolding next fed_back fed register
one_step r h =
    record {
      within = mod-lt _ (lit< tt);
      goes_on = λ t e. rw add-one (agree 256 (λ r. digits (next r)) (λ r. fed (digits r)) [] all_steps r h ∙ ap fed e);
    }

pub no_step : (r : ℕ) → r < 256 → Steps 0 r r
no_step r h = record { within = h; goes_on = λ t e. rw add-zero e }

pub more_steps : {m n a b c : ℕ} → Steps m a b → Steps n b c → Steps (m + n) a c
more_steps {m} {n} p q =
    record { within = q.within; goes_on = λ t e. rw (← add_assoc t m n) (q.goes_on (t + m) (p.goes_on t e)) }

-- ---- rounds

pub begins_first : Begins 0 1
unfolding digits tab register
begins_first = record { within = lit< tt; begins = refl }

-- ---- the bits of a constant

bit_of : (r t : ℕ) → t < 255 → digits r ≡ register t → r % 2 ≡ rc t
unfolding digits tab rc
bit_of r t h e =
    rw (mod-eq_of_lt h) (ap (λ (n : ℕ). n % 2) (sym (div-one r)) ∙ ap (λ (R : List ℕ). get_or R 0 0) e)

-- where bit 2^j - 1 lies, for j below 7
pub power : (j : ℕ) → j < 7 → 1 * 2 ^ j % 2 ^ 64 ≡ 2 ^ j
unfolding tab
power = agree 7 (λ j. 1 * 2 ^ j % 2 ^ 64) (λ j. 2 ^ j) 0 refl

pub place_within : (j : ℕ) → j < 7 → 2 ^ j - 1 < 64
unfolding tab
place_within j h = ltb-true _ _ (agree 7 (λ j. ltb (2 ^ j - 1) 64) (λ j. true) true refl j h)

low_enough : (j : ℕ) → j < 7 → 2 ^ (2 ^ j - 1) ≤ 2 ^ 63
unfolding tab
low_enough j h = leb-true _ _ (agree 7 (λ j. leb (2 ^ (2 ^ j - 1)) (2 ^ 63)) (λ j. true) true refl j h)

above_last : (j : ℕ) → j < 7 → 2 ^ (2 ^ j - 1) + 2 ^ (2 ^ j - 1) ≤ 2 ^ (2 ^ (j + 1) - 1)
unfolding tab
above_last j h =
    leb-true _ _ (agree 7 (λ j. leb (2 ^ (2 ^ j - 1) + 2 ^ (2 ^ j - 1)) (2 ^ (2 ^ (j + 1) - 1))) (λ j. true) true refl j h)

-- the next bit lies above the bits before it
module _ (j r : ℕ) (h : j < 7) {k : ℕ} (below : k < 2 ^ (2 ^ j - 1)) where
  one_bit : r % 2 * 2 ^ (2 ^ j - 1) ≤ 2 ^ (2 ^ j - 1)
  one_bit =
      let bit : r % 2 ≤ 1 = omega arith in rw one-mul at (mul-le-mul_right (2 ^ (2 ^ j - 1)) bit)

  pub bit_fits : k + r % 2 * 2 ^ (2 ^ j - 1) < 2 ^ 64
  bit_fits = omega (arith, one_bit, low_enough j h)

  pub bit_below : k + r % 2 * 2 ^ (2 ^ j - 1) < 2 ^ (2 ^ (j + 1) - 1)
  bit_below = omega (arith, one_bit, above_last j h)

-- after j bits of the constant of a round that begins with `begins`
abbrev pub Within : ℕ → ℕ → ℕ → Type 0
Within j begins constant = (i : ℕ) → i < 24 → digits begins ≡ register (7 * i) → constant ≡ constant_within j i

pub none_within : (begins : ℕ) → Within 0 begins 0
unfolding constant_within
none_within begins i h e = refl

pub more_within : (j : ℕ) → j < 7 → {begins r k : ℕ} → Within j begins k → Steps j begins r
    → Within (j + 1) begins (k + r % 2 * 2 ^ (2 ^ j - 1))
unfolding constant_within
more_within j h {begins} {r} {k} before steps i few e =
    let turn : 7 * i + j ≡ j + 7 * i = omega arith in
    let bit = bit_of r (j + 7 * i) (omega arith) (rw turn at (steps.goes_on (7 * i) e)) in
    rw (add-one, before i few e, bit)

-- the constant of round i, from its first register, and the constants after it
pub round_constant_lem : (i : ℕ) {r k : ℕ} {ks rest : List ℕ} → i < 24 → Begins i r → ConstantOf r k → ks ≡ rest
    → k ∷ ks ≡ round_constant i ∷ rest
round_constant_lem i h now constant later = rw (constant.is i h now.begins, later)
