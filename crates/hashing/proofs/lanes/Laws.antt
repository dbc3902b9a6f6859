-- Bytes in lanes: what several at once are, and what they make of a list that they are written into. Assumes nothing.
use mathlib.Core.Path.{◌≡◌, refl, sym, ap, ap₂, ◌∙◌}
use mathlib.Core.Bool.{Bool, true, false, xor}
use mathlib.Core.List.{List, [], ◌∷◌, ◌++◌, append-nil, append_assoc}
use mathlib.Core.Logic.{inl, inr}
use Prim.Native.Nat.{ℕ, zero, suc, ◌+◌, ◌-◌, ◌*◌, ◌/◌, ◌%◌, ◌^◌, ◌≤◌, ◌<◌}
use native.Mathlib.Nat.{le_refl, add-mul, mul-le-mul_right, add-zero, add-suc, zero-add}
use native.Mathlib.Decide.{dec_lt}
use native.Mathlib.Numerals.{add-one}
use native.Mathlib.Omega.{arith}
use lib.ListN.{length, get_or, set, take, drop, length-append, length-drop, take-append-drop}
use lib.Pow.{pow-add}
use lib.Dec.{lit<}
use Rattle.std.specs.Int.Bits.{xor_shifted}
use Rattle.std.proofs.lemmas.Nat.{xor_comm}
use lib.Seq.{drop-cons, set_at, set_split, take-suc, length-take-le, append_snoc}
use Rattle.hashing.specs.Lists.{tab, bit_at}
use Rattle.hashing.specs.inner.Parts.{lane_of, AtOnce, overwritten}
use Rattle.hashing.proofs.Lists.{length-tab, filled_more}
use Rattle.hashing.proofs.Words.{bit-xor, bit_zero, bit_shl, bit_shl_below, bit_above}

-- as many as go at once end with the lane
pub at_once_fits : (k n : ℕ) → k < 8 → AtOnce k n → (0 < n) × (k + n ≤ 8)
at_once_fits k n within (inl one) = omega arith
at_once_fits k n within (inr whole) = let start = whole.0 in let all = whole.1 in omega arith

pub at_once_one : (k n : ℕ) → AtOnce k n → (n ≡ 8 → ⊥) → n ≡ 1
at_once_one k n (inl one) not-all = one
at_once_one k n (inr whole) not-all = absurd (not-all whole.1)

-- a byte alone
pub lane-one : (k : ℕ) (b : ℕ → ℕ) → lane_of k 1 b ≡ b 0 * 2 ^ (8 * k)
unfolding lane_of
lane-one k b = rw (add-zero k)

-- what several at once add to the bytes taken so far
pub taken_more : (l : List ℕ) (i n : ℕ) → i + n ≤ length l → take i l ++ tab n (λ m. get_or l (i + m) 0) ≡ take (i + n) l
unfolding tab
taken_more l i zero h = rw (add-zero i) (append-nil (take i l))
taken_more l i (suc n) h =
    sym (append_assoc (take i l) (tab n (λ m. get_or l (i + m) 0)) (get_or l (i + n) 0 ∷ []))
    ∙ ap (λ (xs : List ℕ). xs ++ (get_or l (i + n) 0 ∷ [])) (taken_more l i n (omega arith))
    ∙ sym (rw (add-suc i n) (take-suc l (i + n) 0 (omega arith)))

xor_false : (t : Bool) → xor t false ≡ t
unfolding xor
xor_false true = refl
xor_false false = refl

false_xor : (t : Bool) → xor false t ≡ t
unfolding xor
false_xor true = refl
false_xor false = refl

-- the bits of bytes that stand in a lane from its start
module _ (b : ℕ → ℕ) where
  lane_above : (n e : ℕ) → ((m : ℕ) → m < n → b m < 2 ^ 8) → 8 * n ≤ e → bit_at (lane_of 0 n b) e ≡ false
  unfolding lane_of xor
  lane_above zero e small past = bit_zero e
  lane_above (suc n) e small past =
      let at : e ≡ e - 8 * (0 + n) + 8 * (0 + n) = omega arith in
      bit-xor (lane_of 0 n b) (b n * 2 ^ (8 * (0 + n))) e
      ∙ ap₂ xor (lane_above n e (λ m h. small m (omega arith)) (omega arith))
      (ap (bit_at (b n * 2 ^ (8 * (0 + n)))) at ∙ bit_shl (b n) (8 * (0 + n)) (e - 8 * (0 + n))
      ∙ bit_above (b n) 8 (e - 8 * (0 + n)) (small n (le_refl (suc n))) (omega arith))

  pub lane-bits : (n e : ℕ) → ((m : ℕ) → m < n → b m < 2 ^ 8) → e < 8 * n → bit_at (lane_of 0 n b) e ≡ bit_at (b (e / 8)) (e % 8)
  unfolding lane_of xor
  lane-bits zero e small below = absurd (omega arith)
  lane-bits (suc n) e small below = bit-xor (lane_of 0 n b) (b n * 2 ^ (8 * (0 + n))) e ∙ go (lane-bits n e (λ m h. small m (omega arith))) (dec_lt e (8 * n))
    where
      go : (e < 8 * n → bit_at (lane_of 0 n b) e ≡ bit_at (b (e / 8)) (e % 8)) → Dec (e < 8 * n)
          → xor (bit_at (lane_of 0 n b) e) (bit_at (b n * 2 ^ (8 * (0 + n))) e) ≡ bit_at (b (e / 8)) (e % 8)
      go before (yes lower) =
          ap₂ xor (before lower) (bit_shl_below (b n) (8 * (0 + n)) e (omega arith))
          ∙ xor_false (bit_at (b (e / 8)) (e % 8))
      go before (no past) =
          let last : e / 8 ≡ n = omega arith in
          let at : e ≡ e % 8 + 8 * (0 + n) = omega arith in
          ap₂ xor (lane_above n e (λ m h. small m (omega arith)) (omega arith))
          (ap (bit_at (b n * 2 ^ (8 * (0 + n)))) at ∙ bit_shl (b n) (8 * (0 + n)) (e % 8))
          ∙ false_xor (bit_at (b n) (e % 8)) ∙ ap (λ (m : ℕ). bit_at (b m) (e % 8)) (sym last)

  lane-none : lane_of 0 0 b ≡ 0
  unfolding lane_of
  lane-none = refl

  -- they stand apart, so a byte more is added
  lane-more : (n : ℕ) → lane_of 0 n b < 2 ^ (8 * n) → lane_of 0 (suc n) b ≡ b n * 2 ^ (8 * n) + lane_of 0 n b
  unfolding lane_of
  lane-more n below =
      rw (zero-add n) (xor_comm (lane_of 0 n b) (b n * 2 ^ (8 * n)) ∙ xor_shifted (b n) (8 * n) (lane_of 0 n b) below)

  lane-below : (n : ℕ) → ((m : ℕ) → m < n → b m < 2 ^ 8) → lane_of 0 n b < 2 ^ (8 * n)
  lane-below zero small = rw lane-none (lit< tt)
  lane-below (suc n) small =
      let before = lane-below n (λ m h. small m (omega arith)) in
      let whole : 2 ^ (8 * suc n) ≡ 2 ^ 8 * 2 ^ (8 * n) = ap (λ (k : ℕ). 2 ^ k) (omega arith) ∙ pow-add 2 8 (8 * n) in
      rw (lane-more n before, whole)
      (omega (arith, before, mul-le-mul_right (2 ^ (8 * n)) (small n (le_refl (suc n))), add-mul (b n) 1 (2 ^ (8 * n))))

  pub lane-eight : ((m : ℕ) → m < 8 → b m < 2 ^ 8)
      → lane_of 0 8 b ≡ b 0 + 256 * (b 1 + 256 * (b 2 + 256 * (b 3 + 256 * (b 4 + 256 * (b 5 + 256 * (b 6 + 256 * b 7))))))
  lane-eight small =
      let step : (n : ℕ) → n < 8 → lane_of 0 (suc n) b ≡ b n * 2 ^ (8 * n) + lane_of 0 n b = λ n h. lane-more n (lane-below n (λ m less. small m (omega arith))) in
      let none : lane_of 0 0 b ≡ 0 = lane-none in
      omega (
        arith,
        none,
        step 0 (lit< tt),
        step 1 (lit< tt),
        step 2 (lit< tt),
        step 3 (lit< tt),
        step 4 (lit< tt),
        step 5 (lit< tt),
        step 6 (lit< tt),
        step 7 (lit< tt),
      )

-- writing from place i on
pub overwritten-none : (i : ℕ) (l : List ℕ) → overwritten i [] l ≡ l
unfolding overwritten
overwritten-none i l = rw (add-zero i, append-nil (take i l)) (take-append-drop i l)

pub overwritten-one : (i v : ℕ) (l : List ℕ) → i < length l → set l i v ≡ overwritten i (v ∷ []) l
unfolding overwritten
overwritten-one i v l room = rw (add-one i) (set_split l i v room ∙ sym (append_snoc (take i l) v (drop (suc i) l)))

pub overwritten_more : (i : ℕ) (P l : List ℕ) (v : ℕ) → i + length P < length l
    → set (overwritten i P l) (i + length P) v ≡ overwritten i (P ++ (v ∷ [])) l
unfolding overwritten
overwritten_more i P l v room =
    let long : length (take i l ++ P) ≡ i + length P = length-append (take i l) P ∙ ap (λ (n : ℕ). n + length P) (length-take-le i l (omega arith)) in
    let next : i + length (P ++ (v ∷ [])) ≡ suc (i + length P) = rw (length-append P (v ∷ [])) (omega arith) in
    rw (next, drop-cons l (i + length P) 0 room, ← append_assoc (take i l) P (v ∷ []))
    (set_at (take i l ++ P) (get_or l (i + length P) 0) (drop (suc (i + length P)) l) v (i + length P) long
    ∙ sym (append_snoc (take i l ++ P) v (drop (suc (i + length P)) l)))

-- n bytes of a lane from its byte k on, for the count of one
module _ (lane k n i : ℕ) (out : List ℕ) where
  pub laid_one : n ≡ 1 → i < length out
      → set out i (lane / 2 ^ (8 * k) % 256) ≡ overwritten i (tab n (λ m. lane / 2 ^ (8 * (k + m)) % 256)) out
  unfolding tab
  laid_one single room = rw (single, add-zero k) (overwritten-one i (lane / 2 ^ (8 * k) % 256) out room)

-- a loop that fills l from the left: n more elements are done
pub filled_part : (i n : ℕ) (f : ℕ → ℕ) (l : List ℕ) → i + n ≤ length l
    → overwritten i (tab n (λ m. f (i + m))) (tab i f ++ drop i l) ≡ tab (i + n) f ++ drop (i + n) l
unfolding tab
filled_part i zero f l room = rw (add-zero i) (overwritten-none i (tab i f ++ drop i l))
filled_part i (suc n) f l room =
    let before : List ℕ = tab i f ++ drop i l in
    let done : List ℕ = tab n (λ m. f (i + m)) in
    let all : length before ≡ length l = length-append (tab i f) (drop i l) ∙ ap₂ ◌+◌ (length-tab i f) (length-drop i l) ∙ omega arith in
    let long = length-tab n (λ m. f (i + m)) in
    let next : i + n + 1 ≡ i + suc n = omega arith in
    sym (rw long at (overwritten_more i done before (f (i + n)) (omega arith)))
    ∙ ap (λ (xs : List ℕ). set xs (i + n) (f (i + n))) (filled_part i n f l (omega arith))
    ∙ filled_more (i + n) f l 0 (omega arith) ∙ ap (λ (m : ℕ). tab m f ++ drop m l) next
