-- Laws of the dense product. Assumes nothing.
use mathlib.Core.Path.{◌≡◌, refl, sym, ap, ap₂, ◌∙◌, fun_ext}
use mathlib.Core.Bool.{Bool, false}
use mathlib.Core.List.{List}
use mathlib.Core.Logic.{◌⊎◌, inl, inr, ◌≢◌}
use Prim.Native.Nat.{ℕ, zero, suc, ◌+◌, ◌-◌, ◌*◌, ◌/◌, ◌%◌, ◌^◌, ◌≤◌, ◌<◌, zero-le}
use native.Mathlib.Nat.{not-suc-le-zero, le_of_suc-le-suc, add_comm, add_assoc, zero-add, sub-zero, mod-lt}
use native.Mathlib.Decide.{dec_lt}
use native.Mathlib.Omega.{arith}
use lib.Dec.{lit<}
use lib.ListN.{length, get_or, replicate, length-replicate}
use Rattle.ring.proofs.Ring.{mul_in}
use Rattle.hashing.specs.Lists.{tab, bit_at, bits}
use Rattle.hashing.proofs.Lists.{get_or-tab}
use Rattle.hashing.proofs.Words.{bit_zero, bit_above, bit-mod, bit_shr, bits_at, bits_out, zero_at}
use Rattle.ring.specs.Polynomials.{Poly, InRing, flip, parity, over, add, mul}
use Rattle.ring.specs.inner.Wide.{shifted, wide, Away, Outside, Clear, Multiples, start}
use Rattle.ring.specs.inner.Sizes.{leaf_words, row_words, table_words, first_row}
use Rattle.ring.proofs.Parity.{flip_comm, flip_false, parity-flip, parity-none, parity_ext}
use Rattle.ring.proofs.Shifts.{shifted_below, shifted_from, shifted_past, shifted_swap, shifted-flip, shifted-parity, shifted_none, wide-split, wide_ext, wide-none, wide_in, wide_more, wide-blocks, mul_wide}

-- ---- lists of words

pub words_in : (n : ℕ) (x : List ℕ) → length x ≡ n → InRing (64 * n) (bits 64 x)
words_in n x long k h = bits_out 64 x k (lit< tt) (omega arith)

-- what is written elsewhere leaves a bit
bits_outside : (at n : ℕ) (x y : List ℕ) → Outside at n x y → (k : ℕ) → Away at n (k / 64) → bits 64 y k ≡ bits 64 x k
bits_outside at n x y out k far =
    bits_at 64 y (k / 64) (k % 64) (omega arith) (omega arith) ∙ ap (λ (v : ℕ). bit_at v (k % 64)) (out (k / 64) far)
    ∙ sym (bits_at 64 x (k / 64) (k % 64) (omega arith) (omega arith))

pub away_more : (at i j : ℕ) → Away at (i + 1) j → (j ≢ at + i) × Away at i j
away_more at i j (inl below) = ((λ e. omega arith), inl below)
away_more at i j (inr above) = ((λ e. omega arith), inr (omega arith))

-- m is added to x, from word `at` on
pub added : (at : ℕ) (x m x' : List ℕ) → Outside at (length m) x x'
    → ((k : ℕ) → k < 64 * length m → bits 64 x' (64 * at + k) ≡ flip (bits 64 x (64 * at + k)) (bits 64 m k))
    → bits 64 x' ≡ add (bits 64 x) (shifted (64 * at) (bits 64 m))
unfolding add
added at x m x' out new = fun_ext (λ k. go k (dec_lt k (64 * at)) (dec_lt k (64 * (at + length m))))
  where
    kept : (k : ℕ) → Away at (length m) (k / 64) → shifted (64 * at) (bits 64 m) k ≡ false
        → bits 64 x' k ≡ flip (bits 64 x k) (shifted (64 * at) (bits 64 m) k)
    kept k far none =
        bits_outside at (length m) x x' out k far ∙ sym (flip_false (bits 64 x k)) ∙ ap (flip (bits 64 x k)) (sym none)

    go : (k : ℕ) → Dec (k < 64 * at) → Dec (k < 64 * (at + length m)) → bits 64 x' k ≡ flip (bits 64 x k) (shifted (64 * at) (bits 64 m) k)
    go k (yes below) d = kept k (inl (omega arith)) (shifted_below (64 * at) (bits 64 m) k below)
    go k (no from) (yes before) =
        let back : 64 * at + (k - 64 * at) ≡ k = omega arith in
        ap (bits 64 x') (sym back) ∙ new (k - 64 * at) (omega arith)
        ∙ ap₂ flip (ap (bits 64 x) back) (sym (shifted_from (64 * at) (bits 64 m) k (omega arith)))
    go k (no from) (no past) =
        kept k (inr (omega arith)) (shifted_from (64 * at) (bits 64 m) k (omega arith) ∙ bits_out 64 m (k - 64 * at) (lit< tt) (omega arith))

-- ---- the table of multiples

-- u times b
abbrev times : ℕ → Poly → Poly
times u b = wide 5 (bit_at u) b

-- twice v, and s more
doubled : (v s : ℕ) (b : Poly) (k : ℕ) → v < 16 → s < 2 → times (2 * v + s) b k ≡ flip (times s b k) (shifted 1 (times v b) k)
doubled v s b k h two =
    let half : (2 * v + s) / 2 ≡ v = omega arith in
    let odd : (2 * v + s) % 2 ≡ s = omega arith in
    wide-split 1 4 (bit_at (2 * v + s)) b k
    ∙ ap₂ flip
    (wide_ext 1 (bit_at (2 * v + s)) (bit_at s) b k (λ i one. sym (bit-mod (2 * v + s) 1 i one) ∙ ap (λ (x : ℕ). bit_at x i) odd)
    ∙ sym (wide_more 1 4 (bit_at s) b k (λ i above. bit_above s 1 i (omega arith) above)))
    (ap (λ (p : Poly). shifted 1 p k) (fun_ext (λ j.
    wide_ext 4 (λ i. bit_at (2 * v + s) (1 + i)) (bit_at v) b j
    (λ i low. ap (bit_at (2 * v + s)) (add_comm 1 i) ∙ sym (bit_shr (2 * v + s) 1 i) ∙ ap (λ (x : ℕ). bit_at x i) half)
    ∙ sym (wide_more 4 1 (bit_at v) b j (λ i above. bit_above v 4 i (omega arith) above)))))

-- row 2 v + s, from rows v and s
row_more : (v s : ℕ) (b : Poly) (k : ℕ) → v < 16 → s < 2
    → flip (shifted 1 (shifted 384 (times v b)) k) (shifted 384 (times s b) k) ≡ shifted 384 (times (2 * v + s) b) k
row_more v s b k h two =
    flip_comm (shifted 1 (shifted 384 (times v b)) k) (shifted 384 (times s b) k)
    ∙ ap (flip (shifted 384 (times s b) k)) (shifted_swap 1 384 (times v b) k)
    ∙ sym (shifted-flip 384 (times s b) (shifted 1 (times v b)) k)
    ∙ ap (λ (p : Poly). shifted 384 p k) (fun_ext (λ j. sym (doubled v s b j h two)))

-- one times b, and no times b
times_one : (b : Poly) (k : ℕ) → times 1 b k ≡ b k
unfolding wide over parity bit_at
times_one b k = wide_more 1 4 (bit_at 1) b k (λ i above. bit_above 1 1 i (lit< tt) above) ∙ shifted_from 0 b k zero-le ∙ ap b (sub-zero k)

times_none : (b : Poly) (k : ℕ) → shifted 384 (times 0 b) k ≡ false
times_none b k = shifted_none 384 (times 0 b) k (λ j. wide-none 5 (bit_at 0) b j (λ i low. bit_zero i))

pub clear_none : (n : ℕ) (t : List ℕ) → t ≡ replicate table_words 0 → Clear n t
clear_none n t none =
    (ap length none ∙ length-replicate {A = ℕ} table_words 0, λ i h. ap (λ (l : List ℕ). get_or l i 0) none ∙ zero_at table_words i)

-- what is 0 in all tables is no word of a row that is filled
away : (u n i : ℕ) → 0 < u → n ≤ leaf_words → (i < row_words) ⊎ Away 6 (n + 1) (i % row_words) → Away (row_words * u + 6) (n + 1) i
away u n i pos small gap = go (dec_lt i (row_words * u + 6)) gap
  where
    go : Dec (i < row_words * u + 6) → (i < row_words) ⊎ Away 6 (n + 1) (i % row_words) → Away (row_words * u + 6) (n + 1) i
    go (yes before) d = inl before
    go (no from) (inl first) = inr (omega arith)
    go (no from) (inr (inl low)) = inr (omega arith)
    go (no from) (inr (inr high)) = inr (omega arith)

-- a row is right if its n + 1 words are
module _ (n : ℕ) (b : Poly) (t : List ℕ) (clear : Clear n t) (small : n ≤ leaf_words) (inside : InRing (64 * n) b) where
  gap : (k : ℕ) → (k / 64 < row_words) ⊎ Away 6 (n + 1) (k / 64 % row_words) → bits 64 t k ≡ false
  gap k h =
      bits_at 64 t (k / 64) (k % 64) (omega arith) (omega arith) ∙ ap (λ (x : ℕ). bit_at x (k % 64)) (clear.1 (k / 64) h) ∙ bit_zero (k % 64)

  row-none : (k : ℕ) → k < 64 * row_words → bits 64 t (64 * (row_words * 0) + k) ≡ shifted 384 (times 0 b) k
  row-none k below = gap (64 * (row_words * 0) + k) (inl (omega arith)) ∙ sym (times_none b k)

  whole_row : (u : ℕ)
      → ((k : ℕ) → 384 ≤ k → k < 384 + 64 * (n + 1) → bits 64 t (64 * (row_words * u) + k) ≡ shifted 384 (times u b) k)
      → (k : ℕ) → k < 64 * row_words → bits 64 t (64 * (row_words * u) + k) ≡ shifted 384 (times u b) k
  whole_row u body k below = go (dec_lt k 384) (dec_lt k (384 + 64 * (n + 1)))
    where
      go : Dec (k < 384) → Dec (k < 384 + 64 * (n + 1)) → bits 64 t (64 * (row_words * u) + k) ≡ shifted 384 (times u b) k
      go (yes pad) d = gap (64 * (row_words * u) + k) (inr (inl (omega arith))) ∙ sym (shifted_below 384 (times u b) k pad)
      go (no from) (yes before) = body k (omega arith) before
      go (no from) (no past) =
          gap (64 * (row_words * u) + k) (inr (inr (omega arith)))
          ∙ sym (shifted_from 384 (times u b) k (omega arith) ∙ wide_in (64 * n) 5 (bit_at u) b inside (k - 384) (omega arith))

-- row 1 is b, and row 0 is 0
module _ (n : ℕ) (t b t' : List ℕ) (small : n ≤ leaf_words) (long : length b ≡ n) (same : length t' ≡ length t) (clear : Clear n t)
    (out : Outside first_row (n + 1) t t') (in_place : (i : ℕ) → i < n + 1 → get_or t' (first_row + i) 0 ≡ get_or b i 0) where
  pub clear_first : Clear n t'
  clear_first = (same ∙ clear.0, λ i h. out i (away 1 n i (lit< tt) small h) ∙ clear.1 i h)

  first : (k : ℕ) → 384 ≤ k → k < 384 + 64 * (n + 1) → bits 64 t' (64 * (row_words * 1) + k) ≡ shifted 384 (times 1 (bits 64 b)) k
  first k from before =
      let i = k / 64 - 6 in
      bits_at 64 t' (first_row + i) (k % 64) (omega arith) (omega arith) ∙ ap (λ (x : ℕ). bit_at x (k % 64)) (in_place i (omega arith))
      ∙ sym (shifted_from 384 (times 1 (bits 64 b)) k from ∙ times_one (bits 64 b) (k - 384)
      ∙ bits_at 64 b i (k % 64) (omega arith) (omega arith))

  pub rows_first : Multiples (bits 64 b) 2 t'
  rows_first zero k h below = row-none n (bits 64 b) t' clear_first small (words_in n b long) k below
  rows_first (suc zero) k h below = whole_row n (bits 64 b) t' clear_first small (words_in n b long) 1 first k below
  rows_first (suc (suc u)) k h below = absurd (not-suc-le-zero (le_of_suc-le-suc (le_of_suc-le-suc h)))

-- rows 2 v and 2 v + 1 are filled
module _ (n v : ℕ) (b : Poly) (t t' : List ℕ) (small : n ≤ leaf_words) (pos : 0 < v) (less : v < 16) (inside : InRing (64 * n) b)
    (same : length t' ≡ length t) (clear : Clear n t)
    (out : (i : ℕ) → Away (row_words * (2 * v) + 6) (n + 1) i → Away (row_words * (2 * v + 1) + 6) (n + 1) i → get_or t' i 0 ≡ get_or t i 0)
    (even : (k : ℕ) → k < 64 * (n + 1) → bits 64 t' (64 * (row_words * (2 * v) + 6) + k) ≡ bits 64 t (64 * (row_words * v + 6) + k - 1))
    (odd : (k : ℕ) → k < 64 * (n + 1) → bits 64 t' (64 * (row_words * (2 * v + 1) + 6) + k)
    ≡ flip (bits 64 t (64 * (row_words * v + 6) + k - 1)) (bits 64 t (64 * first_row + k))) where
  pub clear_more : Clear n t'
  clear_more =
      (same ∙ clear.0, λ i h. out i (away (2 * v) n i (omega arith) small h) (away (2 * v + 1) n i (omega arith) small h) ∙ clear.1 i h)

  module _ (before : Multiples b (2 * v) t) where
    -- what both take from row v
    half : (k : ℕ) → 384 ≤ k → k < 64 * row_words
        → bits 64 t (64 * (row_words * v + 6) + (k - 384) - 1) ≡ shifted 1 (shifted 384 (times v b)) k
    half k from below =
        let place : 64 * (row_words * v + 6) + (k - 384) - 1 ≡ 64 * (row_words * v) + (k - 1) = omega arith in
        ap (bits 64 t) place ∙ before v (k - 1) (omega arith) (omega arith) ∙ sym (shifted_from 1 (shifted 384 (times v b)) k (omega arith))

    even_row : (k : ℕ) → 384 ≤ k → k < 384 + 64 * (n + 1) → bits 64 t' (64 * (row_words * (2 * v)) + k) ≡ shifted 384 (times (2 * v) b) k
    even_row k from past =
        let place : 64 * (row_words * (2 * v)) + k ≡ 64 * (row_words * (2 * v) + 6) + (k - 384) = omega arith in
        let none : 2 * v + 0 ≡ 2 * v = omega arith in
        ap (bits 64 t') place ∙ even (k - 384) (omega arith) ∙ half k from (omega arith)
        ∙ sym (flip_false (shifted 1 (shifted 384 (times v b)) k))
        ∙ ap (flip (shifted 1 (shifted 384 (times v b)) k)) (sym (times_none b k)) ∙ row_more v 0 b k less (lit< tt)
        ∙ ap (λ (u : ℕ). shifted 384 (times u b) k) none

    odd_row : (k : ℕ) → 384 ≤ k → k < 384 + 64 * (n + 1) → bits 64 t' (64 * (row_words * (2 * v + 1)) + k) ≡ shifted 384 (times (2 * v + 1) b) k
    odd_row k from past =
        let place : 64 * (row_words * (2 * v + 1)) + k ≡ 64 * (row_words * (2 * v + 1) + 6) + (k - 384) = omega arith in
        let first : 64 * first_row + (k - 384) ≡ 64 * (row_words * 1) + k = omega arith in
        ap (bits 64 t') place ∙ odd (k - 384) (omega arith)
        ∙ ap₂ flip (half k from (omega arith)) (ap (bits 64 t) first ∙ before 1 k (omega arith) (omega arith))
        ∙ row_more v 1 b k less (lit< tt)

    pub rows_more : Multiples b (2 * (v + 1)) t'
    rows_more u k h below = go (dec_lt u (2 * v)) (dec_lt u (2 * v + 1))
      where
        go : Dec (u < 2 * v) → Dec (u < 2 * v + 1) → bits 64 t' (64 * (row_words * u) + k) ≡ shifted 384 (times u b) k
        go (yes old) d =
            let i = row_words * u + k / 64 in
            bits_at 64 t' i (k % 64) (omega arith) (omega arith)
            ∙ ap (λ (x : ℕ). bit_at x (k % 64)) (out i (inl (omega arith)) (inl (omega arith)))
            ∙ sym (bits_at 64 t i (k % 64) (omega arith) (omega arith)) ∙ before u k old below
        go (no new) (yes first) =
            let last : u ≡ 2 * v = omega arith in rw last (whole_row n b t' clear_more small inside (2 * v) even_row k below)
        go (no new) (no second) =
            let last : u ≡ 2 * v + 1 = omega arith in rw last (whole_row n b t' clear_more small inside (2 * v + 1) odd_row k below)

-- ---- a window

-- the coefficients that a window at bit w picks from word j of a, times b
abbrev pub picked : List ℕ → ℕ → Poly → ℕ → Poly
picked a w b j = wide 5 (λ e. bit_at (get_or a j 0) (w + e)) b

module _ (a t : List ℕ) (b : Poly) (n w j : ℕ) (small : n ≤ leaf_words) (rows : Multiples b 32 t) (inside : InRing (64 * n) b) where
  -- a row of the table, read from where `start` says
  row : (m k : ℕ) → m < 7 → k < 64 * (n + 7) → bits 64 t (64 * start a w j m + k) ≡ shifted (64 * m) (picked a w b (j + m)) k
  row m k h below =
      let u = get_or a (j + m) 0 / 2 ^ w % 32 in
      let place : 64 * start a w j m + k ≡ 64 * (row_words * u) + (64 * (6 - m) + k) = omega arith in
      let pad : 384 ≡ 64 * (6 - m) + 64 * m = omega arith in
      ap (bits 64 t) place ∙ rows u (64 * (6 - m) + k) (mod-lt (get_or a (j + m) 0 / 2 ^ w) (lit< tt)) (omega arith)
      ∙ ap (λ (s : ℕ). shifted s (wide 5 (bit_at u) b) (64 * (6 - m) + k)) pad
      ∙ shifted_past (64 * (6 - m)) (64 * m) (wide 5 (bit_at u) b) k
      ∙ ap (λ (p : Poly). shifted (64 * m) p k) (fun_ext (λ i.
      wide_ext 5 (bit_at u) (λ e. bit_at (get_or a (j + m) 0) (w + e)) b i
      (λ e five. bit-mod (get_or a (j + m) 0 / 2 ^ w) 5 e five ∙ bit_shr (get_or a (j + m) 0) w e ∙ ap (bit_at (get_or a (j + m) 0)) (add_comm e w))))

  -- seven rows are added to x, from word j on
  pub pass : (x x' o : List ℕ) → o ≡ tab 7 (start a w j) → Outside j (n + 7) x x'
      → ((k : ℕ) → k < 64 * (n + 7) → bits 64 x' (64 * j + k)
      ≡ flip (bits 64 x (64 * j + k)) (parity 7 (λ m. bits 64 t (64 * get_or o m 0 + k))))
      → (k : ℕ) → bits 64 x' k ≡ flip (bits 64 x k) (parity 7 (λ m. shifted (64 * (j + m)) (picked a w b (j + m)) k))
  pass x x' o starts out new k = go (dec_lt k (64 * j)) (dec_lt k (64 * (j + (n + 7))))
    where
      kept : Away j (n + 7) (k / 64) → ((m : ℕ) → m < 7 → shifted (64 * (j + m)) (picked a w b (j + m)) k ≡ false)
          → bits 64 x' k ≡ flip (bits 64 x k) (parity 7 (λ m. shifted (64 * (j + m)) (picked a w b (j + m)) k))
      kept far none =
          bits_outside j (n + 7) x x' out k far ∙ sym (flip_false (bits 64 x k))
          ∙ ap (flip (bits 64 x k)) (sym (parity-none 7 (λ m. shifted (64 * (j + m)) (picked a w b (j + m)) k) none))

      go : Dec (k < 64 * j) → Dec (k < 64 * (j + (n + 7)))
          → bits 64 x' k ≡ flip (bits 64 x k) (parity 7 (λ m. shifted (64 * (j + m)) (picked a w b (j + m)) k))
      go (yes below) d = kept (inl (omega arith)) (λ m h. shifted_below (64 * (j + m)) (picked a w b (j + m)) k (omega arith))
      go (no from) (yes before) =
          let d = k - 64 * j in
          let back : 64 * j + d ≡ k = omega arith in
          ap (bits 64 x') (sym back) ∙ new d (omega arith)
          ∙ ap₂ flip (ap (bits 64 x) back)
          (parity_ext 7 {f = λ m. bits 64 t (64 * get_or o m 0 + d)} {g = λ m. shifted (64 * (j + m)) (picked a w b (j + m)) k}
          (λ m h.
          let whole : 64 * j + 64 * m ≡ 64 * (j + m) = omega arith in
          ap (λ (s : ℕ). bits 64 t (64 * s + d)) (ap (λ (l : List ℕ). get_or l m 0) starts ∙ get_or-tab 7 (start a w j) 0 m h)
          ∙ row m d h (omega arith) ∙ sym (shifted_past (64 * j) (64 * m) (picked a w b (j + m)) d)
          ∙ ap₂ (λ (s i : ℕ). shifted s (picked a w b (j + m)) i) whole back))
      go (no from) (no past) =
          kept (inr (omega arith))
          (λ m h.
          shifted_from (64 * (j + m)) (picked a w b (j + m)) k (omega arith)
          ∙ wide_in (64 * n) 5 (λ e. bit_at (get_or a (j + m) 0) (w + e)) b inside (k - 64 * (j + m)) (omega arith))

-- the rows end inside the table
pub room : (a o : List ℕ) (w j n m : ℕ) → o ≡ tab 7 (start a w j) → n ≤ leaf_words → m < 7 → get_or o m 0 + (n + 7) ≤ table_words
room a o w j n m starts small h =
    let at : get_or o m 0 ≡ start a w j m = ap (λ (l : List ℕ). get_or l m 0) starts ∙ get_or-tab 7 (start a w j) 0 m h in
    omega arith

-- ---- all windows

-- the sum after the windows from bit w on, 65 bits a word in all: each word of a without its lowest w bits, times b
pub combed : ℕ → List ℕ → Poly → ℕ → Poly
combed n a b w k = parity n (λ j. shifted (64 * j) (wide (65 - w) (λ e. bit_at (get_or a j 0) (w + e)) b) k)

pub combed_none : (n : ℕ) (a : List ℕ) (b : Poly) (k : ℕ) → combed n a b 65 k ≡ false
unfolding combed
combed_none n a b k =
    parity-none n (λ j. shifted (64 * j) (wide 0 (λ e. bit_at (get_or a j 0) (65 + e)) b) k)
    (λ j h. shifted_none (64 * j) (wide 0 (λ e. bit_at (get_or a j 0) (65 + e)) b) k
    (λ i. wide-none 0 (λ e. bit_at (get_or a j 0) (65 + e)) b i (λ e none. absurd (not-suc-le-zero none))))

pub combed_more : (n : ℕ) (a : List ℕ) (b : Poly) (w k : ℕ) → w + 5 ≤ 65
    → combed n a b w k ≡ flip (shifted 5 (combed n a b (w + 5)) k) (parity n (λ j. shifted (64 * j) (picked a w b j) k))
unfolding combed
combed_more n a b w k h =
    parity_ext n {f = λ j. shifted (64 * j) (wide (65 - w) (low j) b) k} {g = λ j. flip (shifted 5 (rest j) k) (shifted (64 * j) (picked a w b j) k)} each
    ∙ parity-flip n (λ j. shifted 5 (rest j) k) (λ j. shifted (64 * j) (picked a w b j) k)
    ∙ ap (λ (p : Bool). flip p (parity n (λ j. shifted (64 * j) (picked a w b j) k))) (sym (shifted-parity 5 n rest k))
  where
    low : ℕ → Poly
    low j e = bit_at (get_or a j 0) (w + e)

    high : ℕ → Poly
    high j = wide (65 - (w + 5)) (λ e. bit_at (get_or a j 0) (w + 5 + e)) b

    rest : ℕ → Poly
    rest j = shifted (64 * j) (high j)

    halves : (j i : ℕ) → wide (65 - w) (low j) b i ≡ flip (picked a w b j i) (shifted 5 (high j) i)
    halves j i =
        let five : 65 - w ≡ 5 + (65 - (w + 5)) = omega arith in
        ap (λ (m : ℕ). wide m (low j) b i) five ∙ wide-split 5 (65 - (w + 5)) (low j) b i
        ∙ ap (λ (p : Poly). flip (picked a w b j i) (shifted 5 p i)) (fun_ext (λ k.
        wide_ext (65 - (w + 5)) (λ e. low j (5 + e)) (λ e. bit_at (get_or a j 0) (w + 5 + e)) b k
        (λ e below. ap (bit_at (get_or a j 0)) (sym (add_assoc w 5 e)))))

    each : (j : ℕ) → j < n
        → shifted (64 * j) (wide (65 - w) (low j) b) k ≡ flip (shifted 5 (rest j) k) (shifted (64 * j) (picked a w b j) k)
    each j below =
        ap (λ (p : Poly). shifted (64 * j) p k) (fun_ext (halves j)) ∙ shifted-flip (64 * j) (picked a w b j) (shifted 5 (high j)) k
        ∙ flip_comm (shifted (64 * j) (picked a w b j) k) (shifted (64 * j) (shifted 5 (high j)) k)
        ∙ ap (λ (p : Bool). flip p (shifted (64 * j) (picked a w b j) k)) (shifted_swap (64 * j) 5 (high j) k)

pub combed_all : (n : ℕ) (a : List ℕ) (b : Poly) (k : ℕ) → ((j : ℕ) → get_or a j 0 < 2 ^ 64)
    → combed n a b 0 k ≡ wide (64 * n) (bits 64 a) b k
unfolding combed
combed_all n a b k fits =
    parity_ext n {f = λ j. shifted (64 * j) (wide 65 (λ e. bit_at (get_or a j 0) (0 + e)) b) k} {g = λ j. shifted (64 * j) (wide 64 (λ e. bits 64 a (64 * j + e)) b) k}
    (λ j h. ap (λ (p : Poly). shifted (64 * j) p k) (fun_ext (λ i.
    simp zero-add (wide_more 64 1 (bit_at (get_or a j 0)) b i (λ e above. bit_above (get_or a j 0) 64 e (fits j) above)
    ∙ wide_ext 64 (bit_at (get_or a j 0)) (λ e. bits 64 a (64 * j + e)) b i (λ e low. sym (bits_at 64 a j e refl low))))))
    ∙ sym (wide-blocks 64 n (bits 64 a) b k)

-- ---- reduction

-- x, with what stands from r on added r further down
abbrev pub folded : List ℕ → ℕ → Poly
folded x r k = flip (bits 64 x k) (bits 64 x (k + r))

-- x is the product before reduction, in n words' worth of bits; y is x with what stands from r on added r further down
pub reduced : (r n : ℕ) (a b x y : Poly) → zero < r → r ≤ 64 * n → InRing r a → InRing r b
    → ((k : ℕ) → k < 128 * n → x k ≡ wide (64 * n) a b k) → InRing r y → ((k : ℕ) → k < r → y k ≡ flip (x k) (x (k + r)))
    → y ≡ mul r a b
reduced r n a b x y pos fits ina inb wide-x iny low = fun_ext (λ k. go k (dec_lt k r))
  where
    whole : (k : ℕ) → k < 128 * n → x k ≡ wide r a b k
    whole k h =
        let more : 64 * n ≡ r + (64 * n - r) = omega arith in
        wide-x k h ∙ ap (λ (m : ℕ). wide m a b k) more ∙ wide_more r (64 * n - r) a b k ina

    go : (k : ℕ) → Dec (k < r) → y k ≡ mul r a b k
    go k (yes h) = low k h ∙ ap₂ flip (whole k (omega arith)) (whole (k + r) (omega arith)) ∙ sym (mul_wide r a b k inb h)
    go k (no above) = iny k (omega arith) ∙ sym (mul_in r pos a b k (omega arith))
