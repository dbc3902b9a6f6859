-- Laws of the permutation's definitions that the proofs of its code cite. Assumes nothing.
use mathlib.Core.Path.{◌≡◌, sym, ap, ◌∙◌, subst}
use mathlib.Core.Bool.{Bool, true, false, ◌||◌, or-false}
use mathlib.Core.List.{List, [], ◌∷◌}
use Prim.Native.Nat.{ℕ, zero, suc, ◌+◌, ◌-◌, ◌*◌, ◌/◌, ◌%◌, ◌^◌, ◌≤◌, ◌<◌}
use native.Mathlib.Nat.{mod-lt, add_comm}
use native.Mathlib.Decide.{dec_lt}
use native.Mathlib.Omega.{arith}
use lib.Bits.{bit_or, bit_xor, or_shifted}
use lib.Dec.{lit<}
use lib.ListN.{length, get_or, set, length-set}
use lib.Pow.{shr-shr, shr_lt}
use Rattle.hashing.specs.Keccak.{lane, plane, state, rotate, parity_c, effect_d, theta, is_at, walk, offset_within, offset, rho, pi, chi, iota, rnd, rounds, keccak_f}
use Rattle.hashing.specs.Lists.{tab, bit_at}
use Rattle.hashing.proofs.Words.{bit-or, bit-mod, bit_shl, bit_shl_below, bit_shr, bit_above, shl_mod}
use Rattle.hashing.proofs.Lists.{length-tab, get_or-tab, tab-get_or}

-- the code's two shifts to the right are one
right_shift : (n a : ℕ) → n < 64 → a / 2 / 2 ^ (63 - n) ≡ a / 2 ^ (64 - n)
right_shift n a h =
    let shift : 1 + (63 - n) ≡ 64 - n = omega arith in
    shr-shr a 1 (63 - n) ∙ ap (λ (m : ℕ). a / 2 ^ m) shift

-- and no bit of the two halves meets
pub rotate_or : (n a : ℕ) → n < 64 → a < 2 ^ 64 → bit_or (a * 2 ^ n % 2 ^ 64) (a / 2 / 2 ^ (63 - n)) ≡ rotate n a
unfolding rotate
rotate_or n a h fits =
    let w : 64 ≡ (64 - n) + n = omega arith in
    let left : a * 2 ^ n % 2 ^ 64 ≡ (a % 2 ^ (64 - n)) * 2 ^ n = ap (λ (m : ℕ). a * 2 ^ n % 2 ^ m) w ∙ shl_mod a (64 - n) n in
    let low : a / 2 ^ (64 - n) < 2 ^ n = shr_lt n (64 - n) (subst (λ (m : ℕ). a < 2 ^ m) (w ∙ add_comm (64 - n) n) fits) in
    rw (right_shift n a h, left) (or_shifted (a % 2 ^ (64 - n)) n (a / 2 ^ (64 - n)) low)

-- what 3.2.2 says of bits: bit z of the turned lane is bit (z - n) mod 64 of the lane
pub rotate-bit : (n a z : ℕ) → n < 64 → a < 2 ^ 64 → z < 64 → bit_at (rotate n a) z ≡ bit_at a ((z + 64 - n) % 64)
rotate-bit n a z h fits below =
    rw (← (rotate_or n a h fits), bit-or (a * 2 ^ n % 2 ^ 64) (a / 2 / 2 ^ (63 - n)) z, right_shift n a h, bit-mod (a * 2 ^ n) 64 z below, bit_shr a (64 - n) z)
    (go (dec_lt z n))
  where
    go : Dec (z < n) → bit_at (a * 2 ^ n) z || bit_at a (z + (64 - n)) ≡ bit_at a ((z + 64 - n) % 64)
    go (yes under) =
        let place : (z + 64 - n) % 64 ≡ z + (64 - n) = omega arith in rw (bit_shl_below a n z under, place)
    go (no reached) =
        let place : (z + 64 - n) % 64 ≡ z - n = omega arith in
        let back : z ≡ (z - n) + n = omega arith in
        let over : 64 ≤ z + (64 - n) = omega arith in
        rw (bit_above a 64 (z + (64 - n)) fits over, place) (or-false _ ∙ ap (bit_at (a * 2 ^ n)) back ∙ bit_shl a n (z - n))

-- ρ turns by less than a lane's width
within_lt : (t x y : ℕ) → offset_within t x y < 64
unfolding offset_within
within_lt zero x y = lit< tt
within_lt (suc t) x y = go (is_at (walk t) x y) (within_lt t x y)
  where
    go : (met : Bool) → offset_within t x y < 64
        → elim met as (λ _. ℕ) [ true ↦ (t + 1) * (t + 2) / 2 % 64 | false ↦ offset_within t x y ] < 64
    go true below = mod-lt ((t + 1) * (t + 2) / 2) (lit< tt)
    go false below = below

pub offset_lt : (x y : ℕ) → offset x y < 64
unfolding offset
offset_lt x y = within_lt 24 x y

pub lane-state : (f : ℕ → ℕ → ℕ) (x y : ℕ) → x < 5 → y < 5 → lane (state f) x y ≡ f x y
unfolding lane state
lane-state f x y hx hy =
    let ex : (5 * y + x) % 5 ≡ x = omega arith in
    let ey : (5 * y + x) / 5 ≡ y = omega arith in
    get_or-tab 25 (λ i. f (i % 5) (i / 5)) 0 (5 * y + x) (omega arith) ∙ rw (ex, ey)

-- θ, ρ and π on one lane
pub arrives : (A : List ℕ) (x y : ℕ) → x < 5 → y < 5
    → lane (pi (rho (theta A))) x y ≡ rotate (offset ((x + 3 * y) % 5) x) (bit_xor (lane A ((x + 3 * y) % 5) x) (effect_d A ((x + 3 * y) % 5)))
unfolding pi rho theta
arrives A x y hx hy =
    let from : (x + 3 * y) % 5 < 5 = mod-lt (x + 3 * y) (lit< tt) in
    rw (lane-state _ x y hx hy, lane-state _ ((x + 3 * y) % 5) x from hx, lane-state _ ((x + 3 * y) % 5) x from hx)

-- and from the effects of θ
pub moved_lane : (A D : List ℕ) (x y : ℕ) → D ≡ tab 5 (effect_d A) → x < 5 → y < 5
    → rotate (offset ((x + 3 * y) % 5) x) (bit_xor (lane A ((x + 3 * y) % 5) x) (get_or D ((x + 3 * y) % 5) 0)) ≡ lane (pi (rho (theta A))) x y
moved_lane A D x y e hx hy =
    rw (e, get_or-tab 5 (effect_d A) 0 ((x + 3 * y) % 5) (mod-lt (x + 3 * y) (lit< tt))) (sym (arrives A x y hx hy))

-- an array of five, written element by element
pub five : (f : ℕ → ℕ) {a b c d e : ℕ} → a ≡ f 0 → b ≡ f 1 → c ≡ f 2 → d ≡ f 3 → e ≡ f 4 → (a ∷ b ∷ c ∷ d ∷ e ∷ []) ≡ tab 5 f
unfolding tab
five f p q r s t = rw (p, q, r, s, t)

-- step 2 of θ, from the parities of the columns
pub effect_of : (A C : List ℕ) → C ≡ tab 5 (parity_c A)
    → (x : ℕ) → bit_xor (get_or C ((x + 4) % 5) 0) (rotate 1 (get_or C ((x + 1) % 5) 0)) ≡ effect_d A x
unfolding effect_d
effect_of A C e x =
    rw (e, get_or-tab 5 (parity_c A) 0 ((x + 4) % 5) (mod-lt (x + 4) (lit< tt)), get_or-tab 5 (parity_c A) 0 ((x + 1) % 5) (mod-lt (x + 1) (lit< tt)))

-- a state is its five planes; ι changes the first lane
pub five_planes : (A : List ℕ) (RC : ℕ) {p q r s t : List ℕ} → length A ≡ 25
    → p ≡ plane A 0 → q ≡ plane A 1 → r ≡ plane A 2 → s ≡ plane A 3 → t ≡ plane A 4
    → (bit_xor (get_or p 0 0) RC ∷ get_or p 1 0 ∷ get_or p 2 0 ∷ get_or p 3 0 ∷ get_or p 4 0
    ∷ get_or q 0 0 ∷ get_or q 1 0 ∷ get_or q 2 0 ∷ get_or q 3 0 ∷ get_or q 4 0
    ∷ get_or r 0 0 ∷ get_or r 1 0 ∷ get_or r 2 0 ∷ get_or r 3 0 ∷ get_or r 4 0
    ∷ get_or s 0 0 ∷ get_or s 1 0 ∷ get_or s 2 0 ∷ get_or s 3 0 ∷ get_or s 4 0
    ∷ get_or t 0 0 ∷ get_or t 1 0 ∷ get_or t 2 0 ∷ get_or t 3 0 ∷ get_or t 4 0 ∷ [])
    ≡ iota A RC
unfolding plane tab lane iota
five_planes A RC size p q r s t =
    let whole : tab 25 (λ k. get_or A k 0) ≡ A = rw size at (tab-get_or A 0) in
    rw (p, q, r, s, t) (ap (λ (l : List ℕ). set l 0 (bit_xor (lane A 0 0) RC)) whole)

pub length-state : (f : ℕ → ℕ → ℕ) → length (state f) ≡ 25
unfolding state
length-state f = length-tab 25 (λ i. f (i % 5) (i / 5))

pub length-rounds : (n : ℕ) (A : List ℕ) → length A ≡ 25 → length (rounds n A) ≡ 25
unfolding rounds rnd iota chi
length-rounds zero A size = size
length-rounds (suc n) A size = simp length-set (length-state _)

pub length-keccak_f : (A : List ℕ) → length (keccak_f A) ≡ 25
unfolding keccak_f rounds rnd iota chi
length-keccak_f A = simp length-set (length-state _)
