-- Laws of counters that lie in planes: adders, and a number against a bound digit by digit. Assumes nothing.
use mathlib.Core.Path.{◌≡◌, refl, sym, ap, ap₂, ◌∙◌}
use mathlib.Core.Bool.{Bool, true, false, not, xor, ◌&&◌, ◌||◌, or-false}
use mathlib.Core.List.{List}
use Prim.Native.Nat.{ℕ, zero, suc, ◌+◌, ◌-◌, ◌*◌, ◌/◌, ◌%◌, ◌^◌, ◌≤◌, ◌<◌}
use native.Mathlib.Nat.{not-suc-le-zero, mod-eq_of_lt, mod-lt, pow-suc, div-one, zero-add}
use native.Mathlib.Decide.{dec_le, ℕ_discrete}
use native.Mathlib.Numerals.{add-one}
use native.Mathlib.Omega.{arith}
use borrow.Author.Tests.{le-leb, lt-leb}
use lib.Bits.{bit_or}
use lib.Dec.{leb, eqb, lit<}
use lib.ListN.{length, get_or, set, replicate, length-set}
use lib.Seq.{get_or-set_same, get_or-set_other}
use Rattle.hashing.specs.Lists.{tab, bit_at}
use Rattle.hashing.proofs.Lists.{tab_ext, tab-get_or, get_or-tab}
use Rattle.hashing.proofs.Words.{bit-or, bit_shr, bit_zero, zero_at}
use Rattle.ring.specs.Bytes.{number}
use Rattle.ring.specs.Polynomials.{bit}
use Rattle.ring.proofs.Binary.{number_ext, number_lt, bit_at-number, number-bit_at}
use Rattle.exchange.specs.inner.Counting.{total}
use Rattle.exchange.specs.inner.Planes.{planes, plane_words, column, number_at, reaches}

-- ---- adders

pub full : (a b c : Bool) → bit (xor (xor a b) c) + 2 * bit (a && b || xor a b && c) ≡ bit a + bit b + bit c
unfolding xor
full true true true = refl
full true true false = refl
full true false true = refl
full true false false = refl
full false true true = refl
full false true false = refl
full false false true = refl
full false false false = refl

-- numbers that differ in digit k at most
number_change : (n k : ℕ) (f g : ℕ → Bool) → k < n → ((i : ℕ) → (i ≡ k → ⊥) → f i ≡ g i)
    → number n f + bit (g k) * 2 ^ k ≡ number n g + bit (f k) * 2 ^ k
unfolding number
number_change zero k f g h same = absurd (not-suc-le-zero h)
number_change (suc n) k f g h same = go (ℕ_discrete k n) (number_change n k f g)
  where
    go : Dec (k ≡ n) → (k < n → ((i : ℕ) → (i ≡ k → ⊥) → f i ≡ g i) → number n f + bit (g k) * 2 ^ k ≡ number n g + bit (f k) * 2 ^ k)
        → number n f + bit (f n) * 2 ^ n + bit (g k) * 2 ^ k ≡ number n g + bit (g n) * 2 ^ n + bit (f k) * 2 ^ k
    go (yes last) before =
        let below : number n f ≡ number n g = number_ext n (λ i low. same i (λ e. omega arith)) in rw (last, below) (omega arith)
    go (no other) before =
        let below = before (omega arith) same in
        let top : f n ≡ g n = same n (λ e. other (sym e)) in
        rw top (omega arith)

pub number-set : (q : List ℕ) (k v e : ℕ) → k < planes → k < length q
    → number_at (set q k v) e + bit (bit_at (get_or q k 0) e) * 2 ^ k ≡ number_at q e + bit (bit_at v e) * 2 ^ k
unfolding number_at
number-set q k v e h room =
    number_change planes k (λ i. bit_at (get_or (set q k v) i 0) e) (λ i. bit_at (get_or q i 0) e) h
    (λ i other. ap (λ (x : ℕ). bit_at x e) (get_or-set_other q k i v 0 (λ s. other s)))
    ∙ ap (λ (x : ℕ). number_at q e + bit (bit_at x e) * 2 ^ k) (get_or-set_same q k v 0 room)

-- a carry goes into a digit of weight w, and on from it
carry_digit : (a c : Bool) (n m w : ℕ) → m + bit a * w ≡ n + bit (xor a c) * w → m + bit (a && c) * (w * 2) ≡ n + bit c * w
unfolding xor
carry_digit true true n m w h = omega arith
carry_digit true false n m w h = omega arith
carry_digit false true n m w h = omega arith
carry_digit false false n m w h = omega arith

pub carry_on : (a c : Bool) (k n m : ℕ) → m + bit a * 2 ^ k ≡ n + bit (xor a c) * 2 ^ k → m + bit (a && c) * 2 ^ (k + 1) ≡ n + bit c * 2 ^ k
carry_on a c k n m h = rw (add-one k, pow-suc 2 k) (carry_digit a c n m (2 ^ k) h)

pub set_three : (q : List ℕ) (x y z e : ℕ) → length q ≡ planes
    → number_at (set (set (set q 0 x) 1 y) 2 z) e + (bit (bit_at (get_or q 0 0) e) + 2 * bit (bit_at (get_or q 1 0) e) + 4 * bit (bit_at (get_or q 2 0) e))
    ≡ number_at q e + (bit (bit_at x e) + 2 * bit (bit_at y e) + 4 * bit (bit_at z e))
set_three q x y z e long =
    let one = set q 0 x in
    let two = set one 1 y in
    let first = number-set q 0 x e (lit< tt) (omega arith) in
    let second = number-set one 1 y e (lit< tt) (simp length-set (omega arith)) in
    let third = number-set two 2 z e (lit< tt) (simp length-set (omega arith)) in
    let at1 : get_or one 1 0 ≡ get_or q 1 0 = get_or-set_other q 0 1 x 0 (λ s. omega arith) in
    let at2 : get_or two 2 0 ≡ get_or q 2 0 = get_or-set_other one 1 2 y 0 (λ s. omega arith) ∙ get_or-set_other q 0 2 x 0 (λ s. omega arith) in
    omega (arith, first, rw at1 at second, rw at2 at third)

-- ---- columns

pub column_is : (p q : List ℕ) (i : ℕ) → length q ≡ planes → ((k : ℕ) → k < planes → get_or p (plane_words * k + i) 0 ≡ get_or q k 0) → column p i ≡ q
unfolding column
column_is p q i long same =
    tab_ext planes (λ k. get_or p (plane_words * k + i) 0) (λ k. get_or q k 0) same
    ∙ ap (λ (n : ℕ). tab n (λ k. get_or q k 0)) (sym long) ∙ tab-get_or q 0

pub column_ext : (p q : List ℕ) (i : ℕ) → ((k : ℕ) → get_or p (plane_words * k + i) 0 ≡ get_or q (plane_words * k + i) 0) → column p i ≡ column q i
unfolding column
column_ext p q i same = tab_ext planes _ _ (λ k h. same k)

-- planes of zeros count nothing
pub none_counted : (n : ℕ) {p : List ℕ} → p ≡ replicate n 0 → (i e : ℕ) → number_at (column p i) e ≡ 0
unfolding column number_at number
none_counted n {p} zeros i e =
    number_ext planes {f = λ k. bit_at (get_or (column p i) k 0) e} {g = λ k. false}
    (λ k h.
    ap (λ (x : ℕ). bit_at x e)
    (get_or-tab planes (λ k. get_or p (plane_words * k + i) 0) 0 k h
    ∙ ap (λ (l : List ℕ). get_or l (plane_words * k + i) 0) zeros ∙ zero_at n (plane_words * k + i))
    ∙ bit_zero e)

-- ---- a number against a bound

digit_step : (b n w : ℕ) → b < w → n < w → (f c : Bool) → leb b n && f || xor (leb b n) f && not c ≡ leb (b + bit c * w) (n + bit f * w)
unfolding xor
digit_step b n w hb hn f c = go f c (dec_le b n)
  where
    go : (f c : Bool) → Dec (b ≤ n) → leb b n && f || xor (leb b n) f && not c ≡ leb (b + bit c * w) (n + bit f * w)
    go true true (yes h) = rw (le-leb b n h) (sym (le-leb (b + 1 * w) (n + 1 * w) (omega arith)))
    go true false (yes h) = rw (le-leb b n h) (sym (le-leb (b + 0 * w) (n + 1 * w) (omega arith)))
    go false true (yes h) = rw (le-leb b n h) (sym (lt-leb (b + 1 * w) (n + 0 * w) (omega arith)))
    go false false (yes h) = rw (le-leb b n h) (sym (le-leb (b + 0 * w) (n + 0 * w) (omega arith)))
    go true true (no h) = rw (lt-leb b n (omega arith)) (sym (lt-leb (b + 1 * w) (n + 1 * w) (omega arith)))
    go true false (no h) = rw (lt-leb b n (omega arith)) (sym (le-leb (b + 0 * w) (n + 1 * w) (omega arith)))
    go false true (no h) = rw (lt-leb b n (omega arith)) (sym (lt-leb (b + 1 * w) (n + 0 * w) (omega arith)))
    go false false (no h) = rw (lt-leb b n (omega arith)) (sym (lt-leb (b + 0 * w) (n + 0 * w) (omega arith)))

pub reaches_leb : (n : ℕ) (b f : ℕ → Bool) → reaches n (λ k. not (b k)) f ≡ leb (number n b) (number n f)
unfolding reaches number
reaches_leb zero b f = sym (le-leb 0 0 (omega arith))
reaches_leb (suc n) b f =
    rw (reaches_leb n b f) (digit_step (number n b) (number n f) (2 ^ n) (number_lt n b) (number_lt n f) (f n) (b n))

number_ones : (n : ℕ) → number n (λ k. true) + 1 ≡ 2 ^ n
unfolding number
number_ones zero = refl
number_ones (suc n) = let before = number_ones n in rw (pow-suc 2 n) (omega arith)

-- a bound that n digits do not hold is as 2^n - 1 to a number below that
pub capped : (n bound x : ℕ) → bound < 2 ^ suc n → x + 1 < 2 ^ n → leb (number n (λ k. bit_at bound k || bit_at bound n)) x ≡ leb bound x
unfolding number
capped n bound x held small = go (bit_at bound n) refl
  where
    parts : number n (bit_at bound) + bit (bit_at bound n) * 2 ^ n ≡ bound
    parts = number-bit_at (suc n) bound ∙ mod-eq_of_lt held

    or-true : (a : Bool) → a || true ≡ true
    or-true true = refl
    or-true false = refl

    go : (t : Bool) → bit_at bound n ≡ t → leb (number n (λ k. bit_at bound k || t)) x ≡ leb bound x
    go true set =
        let all : number n (λ k. bit_at bound k || true) ≡ number n (λ k. true) = number_ext n (λ k h. or-true (bit_at bound k)) in
        let top : number n (bit_at bound) + 1 * 2 ^ n ≡ bound = rw set at parts in
        lt-leb _ x (omega (arith, number_ones n)) ∙ sym (lt-leb bound x (omega arith))
    go false clear =
        let low : number n (λ k. bit_at bound k || false) ≡ number n (bit_at bound) = number_ext n (λ k h. or-false (bit_at bound k)) in
        let whole : number n (bit_at bound) + 0 * 2 ^ n ≡ bound = rw clear at parts in
        ap (λ (m : ℕ). leb m x) (low ∙ omega arith)

-- ---- masks

pub bit_at-ones : (e : ℕ) → e < 64 → bit_at 0xffffffffffffffff e ≡ true
unfolding number
bit_at-ones e h = bit_at-number 64 (λ k. true) e h

-- all bits where a number is even, and else none
mask : (t e : ℕ) → t < 2 → e < 64 → bit_at (0xffffffffffffffff * (1 - t)) e ≡ not (eqb t 1)
mask zero e small h = bit_at-ones e h
mask (suc zero) e small h = bit_zero e
mask (suc (suc t)) e small h = absurd (omega arith)

-- the mask of digit k of a bound, and of its digit n
pub mask_digit : (b k n e : ℕ) → e < 64 → bit_at (0xffffffffffffffff * (1 - bit_or (b / 2 ^ k) (b / 2 ^ n) % 2)) e ≡ not (bit_at b k || bit_at b n)
unfolding bit_at
mask_digit b k n e h = mask (x % 2) e (mod-lt x (lit< tt)) h ∙ ap not (low ∙ bit-or (b / 2 ^ k) (b / 2 ^ n) 0 ∙ ap₂ ◌||◌ (shifted k) (shifted n))
  where
    x : ℕ
    x = bit_or (b / 2 ^ k) (b / 2 ^ n)

    shifted : (m : ℕ) → bit_at (b / 2 ^ m) 0 ≡ bit_at b m
    shifted m = bit_shr b m 0 ∙ ap (bit_at b) (zero-add m)

    low : eqb (x % 2) 1 ≡ bit_at x 0
    low = ap (λ (y : ℕ). eqb (y % 2) 1) (sym (div-one x))

pub reaches_more : (n : ℕ) (clear f : ℕ → Bool) → reaches (n + 1) clear f ≡ reaches n clear f && f n || xor (reaches n clear f) (f n) && clear n
unfolding reaches
reaches_more n clear f = ap (λ (m : ℕ). reaches m clear f) (add-one n)

pub reaches_ext : (n : ℕ) (c d f : ℕ → Bool) → ((k : ℕ) → k < n → c k ≡ d k) → reaches n c f ≡ reaches n d f
unfolding reaches
reaches_ext zero c d f same = refl
reaches_ext (suc n) c d f same = rw (reaches_ext n c d f (λ k h. same k (omega arith)), same n (omega arith))

-- ---- sums

-- what comes from d on adds nothing
pub total_rest : (d n : ℕ) (f : ℕ → ℕ) → d ≤ n → ((i : ℕ) → d ≤ i → i < n → f i ≡ 0) → total n f ≡ total d f
unfolding total
total_rest d zero f le none = let same : zero ≡ d = omega arith in ap (λ (m : ℕ). total m f) same
total_rest d (suc n) f le none = go (dec_le d n) (total_rest d n f)
  where
    go : Dec (d ≤ n) → (d ≤ n → ((i : ℕ) → d ≤ i → i < n → f i ≡ 0) → total n f ≡ total d f) → total n f + f n ≡ total d f
    go (yes past) before = omega (arith, before past (λ i from below. none i from (omega arith)), none n past (omega arith))
    go (no within) before = let same : suc n ≡ d = omega arith in ap (λ (m : ℕ). total m f) same
