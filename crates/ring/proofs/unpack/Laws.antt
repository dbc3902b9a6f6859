-- What the unpacking of words to bytes rests on. Assumes nothing.
use mathlib.Core.Path.{◌≡◌, refl, sym, ap, ap₂, ◌∙◌}
use mathlib.Core.Bool.{Bool, true, false, true≢false}
use mathlib.Core.List.{List, [], ◌∷◌, ◌++◌}
use mathlib.Core.Logic.{◌⊎◌, inl, inr, ⊎_elim}
use Prim.Native.Nat.{ℕ, zero, suc, ◌+◌, ◌-◌, ◌*◌, ◌/◌, ◌%◌, ◌^◌, ◌≤◌, ◌<◌}
use native.Mathlib.Nat.{add_comm, not-suc-le-zero, mod-eq_of_lt, mod-eq-sub-mod}
use native.Mathlib.Decide.{ℕ_discrete, dec_lt}
use native.Mathlib.Omega.{arith}
use lib.Bits.{bit_and, bit_or}
use lib.Dec.{eqb}
use lib.ListN.{length, get_or, set, take, drop, length-append, get_or-append}
use lib.Seq.{sets, sets-eq, length-take-le, get_or-set_other, get_or-append-add}
use borrow.Author.Tests.{eqb-true}
use Rattle.hashing.specs.Lists.{tab, bit_at}
use Rattle.hashing.proofs.Lists.{length-tab, get_or-tab}
use Rattle.hashing.proofs.Words.{bit-mod, bit_shr}
use Rattle.ring.specs.inner.Held.{Held}
use Rattle.ring.specs.Polynomials.{Poly, both, bit}

-- a test of all numbers below n
every : ℕ → (ℕ → Bool) → Bool
every zero f = true
every (suc n) f = both (every n f) (f n)

every_at : (n : ℕ) (f : ℕ → Bool) → every n f ≡ true → (i : ℕ) → i < n → f i ≡ true
unfolding every
every_at zero f e i h = absurd (not-suc-le-zero h)
every_at (suc n) f e i h = go (every n f) (every_at n f) e (ℕ_discrete i n)
  where
    go : (t : Bool) → (t ≡ true → (j : ℕ) → j < n → f j ≡ true) → both t (f n) ≡ true → Dec (i ≡ n) → f i ≡ true
    go true before e (yes last) = rw last e
    go true before e (no other) = before refl i (omega arith)
    go false before e d = absurd (true≢false (sym e))

-- the digits of a byte, shown for each byte by computing
abbrev pub apart : ℕ → ℕ
apart b = bit_or (bit_and (b % 128 * 0x40810204081) 0x1010101010101) (b / 128 * 2 ^ 56 % 2 ^ 64)

pub digits_apart : (b m : ℕ) → b < 256 → m < 8 → apart b / 2 ^ (8 * m) % 256 ≡ bit (bit_at b m)
unfolding every bit_at
digits_apart b m hb hm =
    eqb-true (apart b / 2 ^ (8 * m) % 256) (bit (bit_at b m))
    (every_at 8 (right b) (every_at 256 (λ c. every 8 (right c)) refl b hb) m hm)
  where
    right : ℕ → ℕ → Bool
    right c j = eqb (apart c / 2 ^ (8 * j) % 256) (bit (bit_at c j))

-- byte j of a word
pub byte_bits : (w j m : ℕ) → m < 8 → bit_at (w / 2 ^ (8 * j) % 256) m ≡ bit_at w (8 * j + m)
byte_bits w j m h = bit-mod (w / 2 ^ (8 * j)) 8 m h ∙ bit_shr w (8 * j) m ∙ ap (bit_at w) (add_comm m (8 * j))

-- elements that are set one after another, and those around them
pub sets_in : (f : ℕ → ℕ) (l : List ℕ) (i n m : ℕ) → i + n ≤ length l → m < n → get_or (sets l i (tab n f)) (i + m) 0 ≡ f m
sets_in f l i n m room below =
    ap (λ (l : List ℕ). get_or l (i + m) 0) (sets-eq (tab n f) l i (rw (length-tab n f) room))
    ∙ ap (λ (k : ℕ). get_or (take i l ++ tab n f ++ drop (i + length (tab n f)) l) (k + m) 0) (sym front)
    ∙ get_or-append (take i l ++ tab n f) (drop (i + length (tab n f)) l) 0 (length (take i l) + m) (omega (arith, front, both_parts))
    ∙ get_or-append-add (take i l) (tab n f) m 0 ∙ get_or-tab n f 0 m below
  where
    front : length (take i l) ≡ i
    front = length-take-le i l (omega arith)

    both_parts : length (take i l ++ tab n f) ≡ i + n
    both_parts = length-append (take i l) (tab n f) ∙ ap₂ ◌+◌ front (length-tab n f)

pub sets_around : (vs l : List ℕ) (i j : ℕ) → (j < i) ⊎ (i + length vs ≤ j) → get_or (sets l i vs) j 0 ≡ get_or l j 0
sets_around [] l i j h = refl
sets_around (v ∷ vs) l i j h =
    sets_around vs (set l i v) (suc i) j (⊎_elim (λ before. inl (omega arith)) (λ past. inr (omega arith)) h)
    ∙ get_or-set_other l i j v 0 (λ e. ⊎_elim (λ before. omega arith) (λ past. omega arith) h)

-- what is laid out (one) is held once it is repeated (two)
pub twice : (r : ℕ) (a : Poly) (one two : List ℕ) → ((k : ℕ) → k < r → get_or one k 0 ≡ bit (a k))
    → ((k : ℕ) → k < r → get_or two (r + k) 0 ≡ get_or one k 0)
    → ((k : ℕ) → (k < r) ⊎ (2 * r ≤ k) → get_or two k 0 ≡ get_or one k 0) → Held r a two
twice r a one two laid copied kept k h = go (dec_lt k r)
  where
    go : Dec (k < r) → get_or two k 0 ≡ bit (a (k % r))
    go (yes below) = rw (mod-eq_of_lt below) (kept k (inl below) ∙ laid k below)
    go (no past) =
        let over : r ≤ k = omega arith in
        let small : k - r < r = omega arith in
        let place : k ≡ r + (k - r) = omega arith in
        let back : k % r ≡ k - r = mod-eq-sub-mod over ∙ mod-eq_of_lt small in
        rw back (ap (λ (n : ℕ). get_or two n 0) place ∙ copied (k - r) small ∙ laid (k - r) small)
