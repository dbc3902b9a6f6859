-- Exclusive or, and the parity of how many numbers below a bound a test holds for: finite sums over two elements. Assumes nothing.
use mathlib.Core.Path.{◌≡◌, refl, sym, ap, ap₂, ◌∙◌}
use mathlib.Core.Bool.{Bool, true, false, xor}
use Prim.Native.Nat.{ℕ, zero, suc, ◌+◌, ◌-◌, ◌≤◌, ◌<◌}
use native.Mathlib.Nat.{le_refl, not-suc-le-zero, add-zero, add-suc}
use native.Mathlib.Decide.{ℕ_discrete, dec_lt}
use native.Mathlib.Omega.{arith}
use lib.Dec.{eqb}
use borrow.Author.Tests.{eq-eqb, ne_eqb, eqb-true, eqb-false}
use Rattle.ring.specs.Polynomials.{flip, both, parity}

pub flip_false : (a : Bool) → flip a false ≡ a
flip_false true = refl
flip_false false = refl

pub flip_comm : (a b : Bool) → flip a b ≡ flip b a
flip_comm true true = refl
flip_comm true false = refl
flip_comm false true = refl
flip_comm false false = refl

pub flip_assoc : (a b c : Bool) → flip (flip a b) c ≡ flip a (flip b c)
flip_assoc true true true = refl
flip_assoc true true false = refl
flip_assoc true false c = refl
flip_assoc false b c = refl

pub flip_self : (a : Bool) → flip a a ≡ false
flip_self true = refl
flip_self false = refl

pub flip_cancel : (a b c : Bool) → flip (flip a b) (flip b c) ≡ flip a c
flip_cancel a b c = flip_assoc a b (flip b c) ∙ ap (flip a) (sym (flip_assoc b b c) ∙ ap (λ (s : Bool). flip s c) (flip_self b))

-- (a + b) + (c + d) = (a + c) + (b + d)
pub flip_swap : (a b c d : Bool) → flip (flip a b) (flip c d) ≡ flip (flip a c) (flip b d)
flip_swap a b c d = simp (flip_assoc, flip_left)
  where
    flip_left : (x y z : Bool) → flip x (flip y z) ≡ flip y (flip x z)
    flip_left x y z = sym (flip_assoc x y z) ∙ ap (λ (s : Bool). flip s z) (flip_comm x y) ∙ flip_assoc y x z

pub flip_ends : (a b c d : Bool) → flip (flip (flip (flip a b) (flip c d)) a) d ≡ flip b c
flip_ends a b c d =
    ap (λ (e : Bool). flip (flip e a) d) (flip_assoc a b (flip c d) ∙ flip_comm a (flip b (flip c d)))
    ∙ ap (λ (e : Bool). flip e d) (flip_assoc (flip b (flip c d)) a a ∙ ap (flip (flip b (flip c d))) (flip_self a) ∙ flip_false (flip b (flip c d)))
    ∙ flip_assoc b (flip c d) d ∙ ap (flip b) (flip_assoc c d d ∙ ap (flip c) (flip_self d) ∙ flip_false c)

pub both_false : (a : Bool) → both a false ≡ false
both_false true = refl
both_false false = refl

pub both_comm : (a b : Bool) → both a b ≡ both b a
both_comm true true = refl
both_comm true false = refl
both_comm false true = refl
both_comm false false = refl

pub both_assoc : (a b c : Bool) → both (both a b) c ≡ both a (both b c)
both_assoc true b c = refl
both_assoc false b c = refl

pub both_left : (a b c : Bool) → both a (both b c) ≡ both b (both a c)
both_left true b c = refl
both_left false b c = sym (both_false b)

pub both_self : (a b : Bool) → both a (both a b) ≡ both a b
both_self true b = refl
both_self false b = refl

pub both-flip : (a b c : Bool) → both a (flip b c) ≡ flip (both a b) (both a c)
both-flip true b c = refl
both-flip false b c = refl

pub flip-both : (a b c : Bool) → both (flip a b) c ≡ flip (both a c) (both b c)
flip-both a b c = both_comm (flip a b) c ∙ both-flip c a b ∙ ap₂ flip (both_comm c a) (both_comm c b)

-- two tests of numbers are one where each equation follows from the other
pub eqb_same : (m n i j : ℕ) → (m ≡ n → i ≡ j) → (i ≡ j → m ≡ n) → eqb m n ≡ eqb i j
eqb_same m n i j there back = go (eqb m n) refl
  where
    go : (t : Bool) → eqb m n ≡ t → eqb m n ≡ eqb i j
    go true e = rw (eq-eqb m n (eqb-true m n e), eq-eqb i j (there (eqb-true m n e)))
    go false e = e ∙ sym (ne_eqb i j (λ q. eqb-false m n e (back q)))

-- laws of the sum
pub parity_ext : (n : ℕ) {f g : ℕ → Bool} → ((i : ℕ) → i < n → f i ≡ g i) → parity n f ≡ parity n g
unfolding parity
parity_ext zero h = refl
parity_ext (suc n) h = ap₂ flip (parity_ext n (λ i below. h i (omega arith))) (h n (le_refl (suc n)))

pub parity_false : (n : ℕ) → parity n (λ i. false) ≡ false
unfolding parity
parity_false zero = refl
parity_false (suc n) = rw (parity_false n)

pub parity-flip : (n : ℕ) (f g : ℕ → Bool) → parity n (λ i. flip (f i) (g i)) ≡ flip (parity n f) (parity n g)
unfolding parity
parity-flip zero f g = refl
parity-flip (suc n) f g = rw (parity-flip n f g) (flip_swap (parity n f) (parity n g) (f n) (g n))

pub parity-both : (n : ℕ) (c : Bool) (f : ℕ → Bool) → parity n (λ i. both c (f i)) ≡ both c (parity n f)
unfolding parity
parity-both zero c f = sym (both_false c)
parity-both (suc n) c f = rw (parity-both n c f) (sym (both-flip c (parity n f) (f n)))

-- the order of two sums does not matter
pub parity_swap : (m n : ℕ) (f : ℕ → ℕ → Bool)
    → parity m (λ i. parity n (λ j. f i j)) ≡ parity n (λ j. parity m (λ i. f i j))
unfolding parity
parity_swap zero n f = sym (parity_false n)
parity_swap (suc m) n f =
    rw (parity_swap m n f) (sym (parity-flip n (λ j. parity m (λ i. f i j)) (λ j. f m j)))

-- in a square sum that does not change under a swap only the diagonal is left
pub parity_square : (n : ℕ) (f : ℕ → ℕ → Bool) → ((i j : ℕ) → f i j ≡ f j i)
    → parity n (λ i. parity n (λ j. f i j)) ≡ parity n (λ i. f i i)
unfolding parity
parity_square zero f swaps = refl
parity_square (suc n) f swaps =
    let edge : parity n (λ i. f i n) ≡ parity n (λ i. f n i) = parity_ext n (λ i below. swaps i n) in
    rw (parity-flip n (λ i. parity n (λ j. f i j)) (λ i. f i n), parity_square n f swaps, edge)
    (flip_cancel (parity n (λ i. f i i)) (parity n (λ i. f n i)) (f n n))

-- of a sum in which only one number counts, its term is left
pub parity_miss : (n : ℕ) (f : ℕ → Bool) (k : ℕ) → n ≤ k → parity n (λ i. both (f i) (eqb i k)) ≡ false
unfolding parity
parity_miss n f k h =
    parity_ext n (λ i below. ap (both (f i)) (ne_eqb i k (λ e. omega arith)) ∙ both_false (f i)) ∙ parity_false n

pub parity_pick : (n : ℕ) (f : ℕ → Bool) (k : ℕ) → k < n → parity n (λ i. both (f i) (eqb i k)) ≡ f k
unfolding parity
parity_pick zero f k h = absurd (not-suc-le-zero h)
parity_pick (suc n) f k h = go (ℕ_discrete n k) (parity_pick n f k)
  where
    go : Dec (n ≡ k) → (k < n → parity n (λ i. both (f i) (eqb i k)) ≡ f k)
        → flip (parity n (λ i. both (f i) (eqb i k))) (both (f n) (eqb n k)) ≡ f k
    go (yes last) before =
        rw (parity_miss n f k (omega arith), eq-eqb n k last, both_comm (f n) true) (ap f last)
    go (no other) before =
        rw (before (omega arith), ne_eqb n k other, both_false (f n)) (flip_false (f k))

pub xor-flip : (a b : Bool) → xor a b ≡ flip a b
unfolding xor
xor-flip true true = refl
xor-flip true false = refl
xor-flip false true = refl
xor-flip false false = refl

pub both_true : (a : Bool) → both a true ≡ a
both_true true = refl
both_true false = refl

pub parity-none : (n : ℕ) (f : ℕ → Bool) → ((i : ℕ) → i < n → f i ≡ false) → parity n f ≡ false
unfolding parity
parity-none zero f h = refl
parity-none (suc n) f h = ap₂ flip (parity-none n f (λ i below. h i (omega arith))) (h n (le_refl (suc n)))

-- the first m, and then n more
pub parity-split : (m n : ℕ) (f : ℕ → Bool) → parity (m + n) f ≡ flip (parity m f) (parity n (λ i. f (m + i)))
unfolding parity
parity-split m zero f = rw add-zero (sym (flip_false (parity m f)))
parity-split m (suc n) f =
    rw (add-suc m n, parity-split m n f) (flip_assoc (parity m f) (parity n (λ i. f (m + i))) (f (m + n)))

-- of n only the first m count, where f fails from m on
pub parity_past : (m n : ℕ) (f : ℕ → Bool) → m ≤ n → ((i : ℕ) → m ≤ i → i < n → f i ≡ false) → parity n f ≡ parity m f
parity_past m n f more past =
    let all : m + (n - m) ≡ n = omega arith in
    ap (λ (k : ℕ). parity k f) (sym all) ∙ parity-split m (n - m) f
    ∙ ap (flip (parity m f)) (parity-none (n - m) (λ i. f (m + i)) (λ i below. past (m + i) (omega arith) (omega arith)))
    ∙ flip_false (parity m f)

-- where f holds at m at most
pub parity_at : (n m : ℕ) (f : ℕ → Bool) → m < n → ((i : ℕ) → i < n → (i ≡ m → ⊥) → f i ≡ false) → parity n f ≡ f m
unfolding parity
parity_at zero m f h other = absurd (not-suc-le-zero h)
parity_at (suc n) m f h other = go (dec_lt m n) (parity_at n m f)
  where
    go : Dec (m < n) → (m < n → ((i : ℕ) → i < n → (i ≡ m → ⊥) → f i ≡ false) → parity n f ≡ f m)
        → flip (parity n f) (f n) ≡ f m
    go (yes below) before =
        ap₂ flip (before below (λ i b. other i (omega arith))) (other n (le_refl (suc n)) (λ e. omega arith))
        ∙ flip_false (f m)
    go (no reached) before =
        let last : m ≡ n = omega arith in
        ap₂ flip (parity-none n f (λ i b. other i (omega arith) (λ e. omega arith))) (ap f (sym last))
