-- A bit that is set in a list of words, the bits of a list of positions, and the two halves of them. Assumes nothing.
use mathlib.Core.Path.{◌≡◌, refl, sym, ap, ◌∙◌, fun_ext}
use mathlib.Core.Bool.{Bool, true, false, ◌&&◌, ◌||◌, or-false, or-true}
use mathlib.Core.List.{List, [], ◌∷◌}
use mathlib.Core.Logic.{inr}
use Prim.Native.Nat.{ℕ, zero, suc, ◌+◌, ◌*◌, ◌/◌, ◌%◌, ◌^◌, ◌≤◌, ◌<◌}
use native.Mathlib.Nat.{one-mul, zero-add, add_comm, div-add-mod', le_refl, not-suc-le-zero, le_of_suc-le-suc}
use native.Mathlib.Decide.{dec_lt, ℕ_discrete}
use native.Mathlib.Numerals.{add-one}
use native.Mathlib.Omega.{arith}
use lib.Arith.{digits_div, digits_mod}
use lib.Bits.{bit_or}
use lib.Dec.{eqb, ltb}
use lib.ListN.{length, get_or, set, take}
use lib.Pow.{pow-lt}
use lib.Seq.{get_or-set_same, get_or-set_other, get_or-take, take-suc, length-take-le}
use borrow.Author.Tests.{lt-ltb, le-ltb, eq-eqb, ne_eqb}
use Rattle.hashing.specs.Lists.{bit_at, bits}
use Rattle.hashing.proofs.Words.{bit-or, bit_above, bit_shl, bit_shl_below, bit_zero}
use Rattle.ring.specs.Polynomials.{Poly, InRing, flip, add, listed}
use Rattle.ring.specs.inner.Wide.{Outside}
use Rattle.ring.proofs.Parity.{eqb_same}
use Rattle.exchange.proofs.sampler.Laws.{listed_snoc}

-- a power of two has one bit
bit-power : (e j : ℕ) → bit_at (2 ^ e) j ≡ eqb j e
unfolding bit_at
bit-power e j = ap (λ (x : ℕ). bit_at x j) (sym (one-mul (2 ^ e))) ∙ go (dec_lt j e) (ℕ_discrete j e)
  where
    go : Dec (j < e) → Dec (j ≡ e) → bit_at (1 * 2 ^ e) j ≡ eqb j e
    go (yes low) other = bit_shl_below 1 e j low ∙ sym (ne_eqb j e (omega arith))
    go (no from) (yes same) = rw (same, eq-eqb e e refl) (simp zero-add at (bit_shl 1 e 0))
    go (no from) (no past) =
        let more : e < j = omega arith in rw one-mul (bit_above (2 ^ e) j j (pow-lt more) (le_refl j)) ∙ sym (ne_eqb j e past)

pub bits-set : (w : ℕ) (xs : List ℕ) (i e : ℕ) → i < length xs → e < w
    → bits w (set xs i (bit_or (get_or xs i 0) (2 ^ e))) ≡ (λ k. bits w xs k || eqb k (i * w + e))
unfolding bits
bits-set w xs i e within low = fun_ext (λ k. go k (ℕ_discrete (k / w) i))
  where
    go : (k : ℕ) → Dec (k / w ≡ i)
        → bit_at (get_or (set xs i (bit_or (get_or xs i 0) (2 ^ e))) (k / w) 0) (k % w) ≡ bit_at (get_or xs (k / w) 0) (k % w) || eqb k (i * w + e)
    go k (yes same) =
        rw (same, get_or-set_same xs i (bit_or (get_or xs i 0) (2 ^ e)) 0 within, bit-or (get_or xs i 0) (2 ^ e) (k % w), bit-power e (k % w))
        (ap (λ (t : Bool). bit_at (get_or xs i 0) (k % w) || t)
        (eqb_same (k % w) e k (i * w + e) (λ h. sym (div-add-mod' k w) ∙ rw (same, h)) (λ h. rw h (digits_mod i low))))
    go k (no other) =
        rw (
          get_or-set_other xs i (k / w) (bit_or (get_or xs i 0) (2 ^ e)) 0 other,
          ne_eqb k (i * w + e) (λ h. other (rw h (digits_div i low))),
        )
        (sym (or-false (bit_at (get_or xs (k / w) 0) (k % w))))

-- ---- the loop that puts in the positions of a list

pub listed_at : (list : List ℕ) (i : ℕ) → i < length list → listed (get_or list i 0) list ≡ true
unfolding listed
listed_at [] i more = absurd (not-suc-le-zero more)
listed_at (x ∷ list) zero more = rw (eq-eqb x x refl)
listed_at (x ∷ list) (suc i) more = rw (listed_at list i (le_of_suc-le-suc more)) (or-true (eqb (get_or list i 0) x))

pub placed_more : (list : List ℕ) (i : ℕ) {before after : Poly} → i < length list → before ≡ (λ k. listed k (take i list))
    → after ≡ (λ k. before k || eqb k (get_or list i 0)) → after ≡ (λ k. listed k (take (i + 1) list))
placed_more list i more so_far step =
    step ∙ fun_ext (λ k. rw (so_far, add-one i, take-suc list i 0 more, listed_snoc k (take i list) (get_or list i 0)))

-- ---- both halves from the bits of all positions

-- the first n words of a list, written to the front of words that are 0
module _ (n : ℕ) (all old now : List ℕ) (within : n ≤ length all) (blank : (j : ℕ) → get_or old j 0 ≡ 0)
    (kept : Outside 0 (length (take n all)) old now) (copied : (j : ℕ) → j < length (take n all) → get_or now (0 + j) 0 ≡ get_or (take n all) j 0) where
  front_word : (j : ℕ) → j < n → get_or now j 0 ≡ get_or all j 0
  front_word j below =
      ap (λ (k : ℕ). get_or now k 0) (sym (zero-add j)) ∙ copied j (rw (length-take-le n all within) below) ∙ get_or-take n all j 0 below

  pub front_bits : (k : ℕ) → k < 64 * n → bits 64 now k ≡ bits 64 all k
  unfolding bits
  front_bits k below = ap (λ (x : ℕ). bit_at x (k % 64)) (front_word (k / 64) (omega arith))

  pub front_in : InRing (64 * n) (bits 64 now)
  unfolding bits
  front_in k past =
      let end : 0 + length (take n all) ≤ k / 64 = omega (arith, length-take-le n all within) in
      ap (λ (x : ℕ). bit_at x (k % 64)) (kept (k / 64) (inr end) ∙ blank (k / 64)) ∙ bit_zero (k % 64)

-- the sum of both, and one of them, is the other
pub other_half : (r : ℕ) (all e0 both : Poly) → InRing r e0 → ((k : ℕ) → k < r → e0 k ≡ all k) → InRing r both
    → ((k : ℕ) → k < r → both k ≡ flip (all k) (all (k + r))) → add both e0 ≡ (λ k. ltb k r && all (r + k))
unfolding add
other_half r all e0 both in0 is0 in_both is-both = fun_ext (λ k. go k (dec_lt k r))
  where
    cancel : (a b : Bool) → flip (flip a b) a ≡ b
    cancel true true = refl
    cancel true false = refl
    cancel false true = refl
    cancel false false = refl

    go : (k : ℕ) → Dec (k < r) → flip (both k) (e0 k) ≡ ltb k r && all (r + k)
    go k (yes below) = rw (is0 k below, is-both k below, lt-ltb k r below) (cancel (all k) (all (k + r)) ∙ ap all (add_comm k r))
    go k (no past) = let end : r ≤ k = omega arith in rw (in0 k end, in_both k end, le-ltb k r end)

-- what is cut at r
pub front_half : (r : ℕ) (all e0 : Poly) → InRing r e0 → ((k : ℕ) → k < r → e0 k ≡ all k) → e0 ≡ (λ k. ltb k r && all k)
front_half r all e0 in0 is0 = fun_ext (λ k. go k (dec_lt k r))
  where
    go : (k : ℕ) → Dec (k < r) → e0 k ≡ ltb k r && all k
    go k (yes below) = rw (lt-ltb k r below) (is0 k below)
    go k (no past) = let end : r ≤ k = omega arith in rw (le-ltb k r end) (in0 k end)
