-- What six lanes that are held inverted become in a round: θ, ρ and π carry them to fixed lanes of each plane, and χ gives them back. Assumes nothing.
use mathlib.Core.Path.{◌≡◌, refl, sym, ap, ap₂, ◌∙◌, subst}
use mathlib.Core.Bool.{Bool, true, false, not, xor, ◌&&◌, ◌||◌}
use mathlib.Core.List.{List}
use Prim.Native.Nat.{ℕ, zero, suc, ◌+◌, ◌-◌, ◌*◌, ◌/◌, ◌%◌, ◌^◌, ◌<◌}
use native.Mathlib.Nat.{mod-lt, lt_of_le_of_lt, le_trans, not-suc-le-zero, le_of_suc-le-suc}
use native.Mathlib.Numerals.{add-one}
use native.Mathlib.Omega.{arith}
use lib.Arith.{lt-one}
use lib.Bits.{bit_and, bit_or, bit_xor, differ, xor_step, xor_comm, xor_zero_r, xor_lt, or_lt, and_le_l}
use lib.Dec.{lit<}
use lib.ListN.{length, get_or, set}
use lib.Pow.{ones_split, ones_lt, high, low, shr_le, pow_pos, pow-add}
use Rattle.hashing.specs.Keccak.{lane, plane, rotate, complement, parity_c, effect_d, theta, offset, rho, pi, chi, iota}
use Rattle.hashing.specs.Lists.{tab, bit_at}
use Rattle.hashing.specs.inner.Inverted.{turned, inverted, exchanged, chosen, Lanes}
use Rattle.hashing.proofs.Lists.{length-tab, get_or-tab, tab-get_or, tab_ext}
use Rattle.hashing.proofs.Words.{bit-xor, bit-or, bit-and, bit_ext, xor_assoc}
use Rattle.hashing.proofs.keccak.Laws.{rotate_or, rotate-bit, lane-state, offset_lt, arrives}

-- ---- one lane

pub twice : (w : ℕ) → turned true (turned true w) ≡ w
unfolding turned
twice w = xor_assoc w (2 ^ 64 - 1) (2 ^ 64 - 1) ∙ xor_zero_r w

pub back : (f : Bool) (w : ℕ) → turned f (turned f w) ≡ w
unfolding turned
back true w = twice w
back false w = refl

again : (f g : Bool) (w : ℕ) → turned f (turned g w) ≡ turned (xor f g) w
unfolding turned xor
again true true w = twice w
again true false w = refl
again false true w = refl
again false false w = refl

-- a sum is inverted as often as its two parts are
pub turned-sum : (f g : Bool) (x y : ℕ) → bit_xor (turned f x) (turned g y) ≡ turned (xor f g) (bit_xor x y)
unfolding turned xor
turned-sum true true x y =
    xor_assoc x (2 ^ 64 - 1) (bit_xor y (2 ^ 64 - 1)) ∙ ap (bit_xor x) (xor_comm (2 ^ 64 - 1) (bit_xor y (2 ^ 64 - 1)) ∙ twice y)
turned-sum true false x y =
    xor_assoc x (2 ^ 64 - 1) y ∙ ap (bit_xor x) (xor_comm (2 ^ 64 - 1) y) ∙ sym (xor_assoc x y (2 ^ 64 - 1))
turned-sum false true x y = sym (xor_assoc x y (2 ^ 64 - 1))
turned-sum false false x y = refl

turned_lt : (f : Bool) (w : ℕ) → w < 2 ^ 64 → turned f w < 2 ^ 64
unfolding turned
turned_lt true w small = xor_lt 64 w (2 ^ 64 - 1) small (lit< tt)
turned_lt false w small = small

bit_ones : (z : ℕ) → z < 64 → bit_at (2 ^ 64 - 1) z ≡ true
unfolding bit_at
bit_ones z below =
    let split : 64 ≡ (63 - z + 1) + z = omega arith in
    let above : (2 ^ 64 - 1) / 2 ^ z ≡ 2 ^ (63 - z + 1) - 1 =
    ap (λ (m : ℕ). (2 ^ m - 1) / 2 ^ z) split ∙ ap (λ (m : ℕ). m / 2 ^ z) (ones_split (63 - z + 1) z) ∙ high (2 ^ (63 - z + 1) - 1) z (ones_lt z) in
    let lowest : (2 ^ (63 - z + 1) - 1) % 2 ≡ 1 = ap (λ (m : ℕ). m % 2) (ones_split (63 - z) 1) ∙ low (2 ^ (63 - z) - 1) 1 (lit< tt) in
    rw (above, lowest) refl

-- each bit of an inverted lane is exchanged
bit-turned : (w z : ℕ) → z < 64 → bit_at (turned true w) z ≡ not (bit_at w z)
unfolding turned xor
bit-turned w z below = bit-xor w (2 ^ 64 - 1) z ∙ rw (bit_ones z below) (exchange (bit_at w z))
  where
    exchange : (b : Bool) → xor b true ≡ not b
    exchange true = refl
    exchange false = refl

-- an inverted lane is the complement of 3.2.4
ones_xor : (k w : ℕ) → w < 2 ^ k → bit_xor w (2 ^ k - 1) ≡ (2 ^ k - 1) - w
ones_xor zero w small = ap (λ (v : ℕ). bit_xor v 0) (lt-one small) ∙ sym (ap (λ (v : ℕ). 0 - v) (lt-one small))
ones_xor (suc k) w small =
    let power : 2 ^ suc k ≡ 2 ^ k * 2 = rw (← (add-one k)) (pow-add 2 k 1) in
    let pos : 0 < 2 ^ k = pow_pos k in
    let half : (2 ^ suc k - 1) / 2 ≡ 2 ^ k - 1 = omega arith in
    let odd : (2 ^ suc k - 1) % 2 ≡ 1 = omega arith in
    let rest = ones_xor k (w / 2) (omega arith) in
    let last = exchange (w % 2) (mod-lt w (lit< tt)) in
    let step : bit_xor w (2 ^ suc k - 1) ≡ (2 ^ k - 1 - w / 2) * 2 + (1 - w % 2) =
    xor_step w (2 ^ suc k - 1)
    ∙ ap₂ (λ (q d : ℕ). q * 2 + d) (ap (bit_xor (w / 2)) half ∙ rest) (ap (differ (w % 2)) odd ∙ last) in
    step ∙ omega arith
  where
    exchange : (d : ℕ) → d < 2 → differ d 1 ≡ 1 - d
    exchange zero h = refl
    exchange (suc zero) h = refl
    exchange (suc (suc d)) h = absurd (not-suc-le-zero (le_of_suc-le-suc (le_of_suc-le-suc h)))

pub turned-complement : (w : ℕ) → w < 2 ^ 64 → turned true w ≡ complement w
unfolding turned
turned-complement w small = ones_xor 64 w small

rotate_lt : (n w : ℕ) → n < 64 → w < 2 ^ 64 → rotate n w < 2 ^ 64
rotate_lt n w h small =
    rw (← (rotate_or n w h small))
    (or_lt 64 _ _ (mod-lt (w * 2 ^ n) (lit< tt)) (lt_of_le_of_lt (le_trans (shr_le (w / 2) (63 - n)) (shr_le w 1)) small))

turned-rotate : (f : Bool) (n w : ℕ) → n < 64 → w < 2 ^ 64 → rotate n (turned f w) ≡ turned f (rotate n w)
unfolding turned
turned-rotate false n w h small = refl
turned-rotate true n w h small =
    bit_ext 64 (rotate_lt n (turned true w) h (turned_lt true w small)) (turned_lt true (rotate n w) (rotate_lt n w h small))
    (λ z below.
    rotate-bit n (turned true w) z h (turned_lt true w small) below ∙ bit-turned w ((z + 64 - n) % 64) (mod-lt (z + 64 - n) (lit< tt))
    ∙ sym (bit-turned (rotate n w) z below ∙ ap not (rotate-bit n w z h small below)))

-- ---- a state

pub lane-exchanged : (A : List ℕ) (x y : ℕ) → x < 5 → y < 5 → lane (exchanged A) x y ≡ turned (inverted (5 * y + x)) (lane A x y)
unfolding lane exchanged
lane-exchanged A x y hx hy = get_or-tab 25 (λ p. turned (inverted p) (get_or A p 0)) 0 (5 * y + x) (omega arith)

-- whether the parity of a column, an effect of θ, and what arrives at (x, y) are inverted
unfoldable pub column : ℕ → Bool
column x =
    xor (xor (xor (xor (inverted (5 * 0 + x)) (inverted (5 * 1 + x))) (inverted (5 * 2 + x))) (inverted (5 * 3 + x))) (inverted (5 * 4 + x))

unfoldable pub effect : ℕ → Bool
effect x = xor (column ((x + 4) % 5)) (column ((x + 1) % 5))

unfoldable pub arriving : ℕ → ℕ → Bool
arriving x y = xor (inverted (5 * x + (x + 3 * y) % 5)) (effect ((x + 3 * y) % 5))

parity-exchanged : (A : List ℕ) (x : ℕ) → x < 5 → parity_c (exchanged A) x ≡ turned (column x) (parity_c A x)
unfolding parity_c column
parity-exchanged A x hx =
    rw (
      lane-exchanged A x 0 hx (lit< tt),
      lane-exchanged A x 1 hx (lit< tt),
      lane-exchanged A x 2 hx (lit< tt),
      lane-exchanged A x 3 hx (lit< tt),
      lane-exchanged A x 4 hx (lit< tt),
      turned-sum,
      turned-sum,
      turned-sum,
      turned-sum,
    )

parity_lt : (A : List ℕ) (x : ℕ) → Lanes A → parity_c A x < 2 ^ 64
unfolding parity_c lane
parity_lt A x small =
    xor_lt 64 _ _ (xor_lt 64 _ _ (xor_lt 64 _ _ (xor_lt 64 _ _ (small _) (small _)) (small _)) (small _)) (small _)

effect_exchanged : (A : List ℕ) (x : ℕ) → Lanes A → effect_d (exchanged A) x ≡ turned (effect x) (effect_d A x)
unfolding effect_d effect
effect_exchanged A x small =
    rw (
      parity-exchanged A ((x + 4) % 5) (mod-lt (x + 4) (lit< tt)),
      parity-exchanged A ((x + 1) % 5) (mod-lt (x + 1) (lit< tt)),
      turned-rotate (column ((x + 1) % 5)) 1 (parity_c A ((x + 1) % 5)) (lit< tt) (parity_lt A ((x + 1) % 5) small),
    )
    (turned-sum (column ((x + 4) % 5)) (column ((x + 1) % 5)) (parity_c A ((x + 4) % 5)) (rotate 1 (parity_c A ((x + 1) % 5))))

effect_lt : (A : List ℕ) (x : ℕ) → Lanes A → effect_d A x < 2 ^ 64
unfolding effect_d
effect_lt A x small =
    xor_lt 64 _ _ (parity_lt A ((x + 4) % 5) small) (rotate_lt 1 _ (lit< tt) (parity_lt A ((x + 1) % 5) small))

pub moved_exchanged : (A : List ℕ) → Lanes A → (x y : ℕ) → x < 5 → y < 5
    → lane (pi (rho (theta (exchanged A)))) x y ≡ turned (arriving x y) (lane (pi (rho (theta A))) x y)
unfolding arriving lane
moved_exchanged A small x y hx hy =
    let from : (x + 3 * y) % 5 < 5 = mod-lt (x + 3 * y) (lit< tt) in
    arrives (exchanged A) x y hx hy
    ∙ ap (rotate (offset ((x + 3 * y) % 5) x))
    (ap₂ bit_xor (lane-exchanged A ((x + 3 * y) % 5) x from hx) (effect_exchanged A ((x + 3 * y) % 5) small)
    ∙ turned-sum (inverted (5 * x + (x + 3 * y) % 5)) (effect ((x + 3 * y) % 5)) (lane A ((x + 3 * y) % 5) x) (effect_d A ((x + 3 * y) % 5)))
    ∙ turned-rotate (arriving x y) (offset ((x + 3 * y) % 5) x) _ (offset_lt _ _) (xor_lt 64 _ _ (small _) (effect_lt A _ small))
    ∙ ap (turned (arriving x y)) (sym (arrives A x y hx hy))

-- ---- χ

-- an inversion of the first lane goes through
pub chosen-turned : (f : Bool) (b c d : ℕ) → chosen (turned f b) c d ≡ turned f (chosen b c d)
unfolding chosen turned xor
chosen-turned true b c d = turned-sum true false b (bit_and (complement c) d)
chosen-turned false b c d = turned-sum false false b (bit_and (complement c) d)

-- where the second lane is held inverted
pub both-chosen : (b c d : ℕ) → c < 2 ^ 64 → bit_xor b (bit_and c d) ≡ chosen b (turned true c) d
unfolding chosen
both-chosen b c d small =
    ap (λ (w : ℕ). bit_xor b (bit_and w d)) (sym (sym (turned-complement (turned true c) (turned_lt true c small)) ∙ twice c))

-- where the third is
pub either-chosen : (b c d : ℕ) → c < 2 ^ 64 → d < 2 ^ 64 → bit_xor b (bit_or c d) ≡ turned true (chosen b c (turned true d))
unfolding chosen turned xor
either-chosen b c d first second =
    ap (bit_xor b) (bit_ext 64 (or_lt 64 c d first second) (turned_lt true _ (lt_of_le_of_lt (and_le_l _ _) (turned_lt true c first))) (λ z below.
    bit-or c d z
    ∙ sym (bit-turned (bit_and (turned true c) (turned true d)) z below
    ∙ ap not (bit-and (turned true c) (turned true d) z ∙ ap₂ ◌&&◌ (bit-turned c z below) (bit-turned d z below))
    ∙ de_morgan (bit_at c z) (bit_at d z))))
    ∙ turned-sum false true b (bit_and (turned true c) (turned true d))
    ∙ ap (λ (w : ℕ). turned true (bit_xor b (bit_and w (turned true d)))) (turned-complement c first)
  where
    de_morgan : (p q : Bool) → not (not p && not q) ≡ p || q
    de_morgan true q = refl
    de_morgan false true = refl
    de_morgan false false = refl

-- two ways to invert the first lane and what χ gives
same : (h i g f : Bool) (b c d : ℕ) → xor h i ≡ xor g f → turned h (chosen (turned i b) c d) ≡ turned g (chosen (turned f b) c d)
same h i g f b c d agree = once h i ∙ ap (λ (t : Bool). turned t (chosen b c d)) agree ∙ sym (once g f)
  where
    once : (h i : Bool) → turned h (chosen (turned i b) c d) ≡ turned (xor h i) (chosen b c d)
    once h i = ap (turned h) (chosen-turned i b c d) ∙ again h i (chosen b c d)

-- lane x of plane y after χ, from the plane that is held
pub row-lane : (A B : List ℕ) (y : ℕ) → Lanes A → B ≡ plane (pi (rho (theta A))) y → y < 5
    → (x : ℕ) → x < 5 → (h i : Bool) → xor h i ≡ xor (inverted (5 * y + x)) (arriving x y)
    → turned h (chosen (turned i (get_or B x 0)) (turned (arriving ((x + 1) % 5) y) (get_or B ((x + 1) % 5) 0))
    (turned (arriving ((x + 2) % 5) y) (get_or B ((x + 2) % 5) 0)))
    ≡ lane (exchanged (chi (pi (rho (theta (exchanged A)))))) x y
unfolding chi plane chosen
row-lane A B y small e hy x hx h i agree =
    let first : (x + 1) % 5 < 5 = mod-lt (x + 1) (lit< tt) in
    let second : (x + 2) % 5 < 5 = mod-lt (x + 2) (lit< tt) in
    let held : ℕ → ℕ = λ k. lane (pi (rho (theta A))) k y in
    same h i (inverted (5 * y + x)) (arriving x y) (get_or B x 0) (turned (arriving ((x + 1) % 5) y) (get_or B ((x + 1) % 5) 0))
    (turned (arriving ((x + 2) % 5) y) (get_or B ((x + 2) % 5) 0)) agree
    ∙ rw (
      e,
      get_or-tab 5 held 0 x hx,
      get_or-tab 5 held 0 ((x + 1) % 5) first,
      get_or-tab 5 held 0 ((x + 2) % 5) second,
      ← (moved_exchanged A small x y hx hy),
      ← (moved_exchanged A small ((x + 1) % 5) y first hy),
      ← (moved_exchanged A small ((x + 2) % 5) y second hy),
    ) (sym (lane-exchanged (chi (pi (rho (theta (exchanged A))))) x y hx hy ∙ ap (turned (inverted (5 * y + x))) (lane-state _ x y hx hy)))

-- ---- a whole state

whole : (A : List ℕ) → length A ≡ 25 → tab 25 (λ p. get_or A p 0) ≡ A
whole A size = rw size at (tab-get_or A 0)

-- one lane of a state, inverted
abbrev pub at : ℕ → List ℕ → List ℕ
at p A = set A p (turned true (get_or A p 0))

pub six_exchanged : (A : List ℕ) → length A ≡ 25 → at 20 (at 17 (at 12 (at 8 (at 2 (at 1 A))))) ≡ exchanged A
unfolding exchanged tab turned inverted
six_exchanged A size =
    subst (λ (B : List ℕ). at 20 (at 17 (at 12 (at 8 (at 2 (at 1 B))))) ≡ exchanged B) (whole A size) refl

-- ι changes a lane that is not inverted
pub iota-exchanged : (A : List ℕ) (RC : ℕ) → length A ≡ 25 → iota (exchanged A) RC ≡ exchanged (iota A RC)
unfolding iota lane exchanged tab turned inverted
iota-exchanged A RC size = subst (λ (B : List ℕ). iota (exchanged B) RC ≡ exchanged (iota B RC)) (whole A size) refl

pub exchanged-twice : (A : List ℕ) → length A ≡ 25 → exchanged (exchanged A) ≡ A
unfolding exchanged
exchanged-twice A size =
    tab_ext 25 (λ p. turned (inverted p) (get_or (exchanged A) p 0)) (λ p. get_or A p 0)
    (λ p below. ap (turned (inverted p)) (get_or-tab 25 (λ q. turned (inverted q) (get_or A q 0)) 0 p below) ∙ back (inverted p) (get_or A p 0))
    ∙ whole A size

pub length_exchanged : (A : List ℕ) → length (exchanged A) ≡ 25
unfolding exchanged
length_exchanged A = length-tab 25 _
