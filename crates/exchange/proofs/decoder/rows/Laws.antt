-- Laws of a polynomial twice in a row, of its bytes, and of the copies further down. Assumes nothing.
use mathlib.Core.Path.{◌≡◌, refl, sym, ap, ap₂, ◌∙◌}
use mathlib.Core.Bool.{Bool, ◌||◌, ◌&&◌, or-false}
use mathlib.Core.List.{List, [], ◌∷◌, ◌++◌}
use Prim.Native.Nat.{ℕ, ◌+◌, ◌-◌, ◌*◌, ◌/◌, ◌%◌, ◌^◌, ◌≤◌, ◌<◌}
use native.Mathlib.Nat.{mod-eq_of_lt, mod-eq-sub-mod, mod-lt}
use native.Mathlib.Decide.{dec_lt}
use native.Mathlib.Omega.{arith}
use borrow.Author.Tests.{lt-ltb, le-ltb, le-leb}
use lib.Bits.{bit_or, bit_xor}
use lib.Dec.{ltb, lit<}
use lib.ListN.{length, get_or, drop, take, replicate, get_or-append}
use lib.Seq.{get_or-append-add, get_or-take, get_or-drop, drop-append-add, drop-drop}
use Rattle.hashing.specs.Lists.{tab, bit_at, bits}
use Rattle.hashing.specs.inner.Parts.{overwritten}
use Rattle.hashing.proofs.Lists.{tab_ext}
use Rattle.hashing.proofs.lanes.Laws.{filled_part}
use Rattle.hashing.proofs.Words.{bit-or, bit-mod, bit_shl, bit_shl_below, bit_shr, bits_at, bits_by, bits_none, bit_above}
use Rattle.ring.specs.Bytes.{number, list_of}
use Rattle.ring.specs.Polynomials.{Poly, InRing, parity, mul, terms}
use Rattle.ring.specs.inner.Sizes.{word_bits}
use Rattle.ring.specs.inner.Windows.{window}
use Rattle.ring.proofs.Binary.{number_of, number_ext, bit_at-number}
use Rattle.ring.proofs.Layouts.{list_of-length, list_of_at}
use Rattle.ring.proofs.Packed.{bits_set_same}
use Rattle.ring.proofs.Parity.{parity_ext}
use Rattle.ring.proofs.sparse.Laws.{filled_up, term_more, windows_product}
use Rattle.exchange.specs.inner.ByteRows.{row_bytes, empty_row, rows_bytes, row_at, EmptyRow, ByteRows, twice, turned_row}
use Rattle.exchange.proofs.decoder.Laws.{below_in}

-- x in the first place, and in the second
module _ (r : ℕ) (x : Poly) (k : ℕ) where
  pub twice_low : k < r → twice r x k ≡ x k
  unfolding twice
  twice_low below = rw (lt-ltb k r below, twice)

  pub twice_high : r ≤ k → twice r x k ≡ x (k - r)
  unfolding twice
  twice_high past = rw (le-ltb k r past, twice)

  twice-turned : k < r + r → twice r x k ≡ x (k % r)
  twice-turned below = go (dec_lt k r)
    where
      go : Dec (k < r) → twice r x k ≡ x (k % r)
      go (yes low) = twice_low low ∙ ap x (sym (mod-eq_of_lt low))
      go (no high) =
          let past : r ≤ k = omega arith in
          twice_high past ∙ ap x (sym (mod-eq-sub-mod past ∙ mod-eq_of_lt (omega arith)))

-- a word is laid where its bits belong
module _ (P : Poly) (j w : ℕ) (word : (e : ℕ) → e < 64 → bit_at w e ≡ P (64 * j + e)) where
  byte_laid : (m : ℕ) → m < 8 → w / 2 ^ (8 * m) % 256 ≡ number 8 (λ e. P ((8 * j + m) * 8 + e))
  byte_laid m h =
      number_of 8 (w / 2 ^ (8 * m) % 2 ^ 8) (λ e. P ((8 * j + m) * 8 + e)) (mod-lt (w / 2 ^ (8 * m)) (omega arith))
      (λ e below.
      let place : 64 * j + (e + 8 * m) ≡ (8 * j + m) * 8 + e = omega arith in
      bit-mod (w / 2 ^ (8 * m)) 8 e below ∙ bit_shr w (8 * m) e ∙ word (e + 8 * m) (omega arith) ∙ ap P place)

  pub laid : (l f : List ℕ) → 8 * j + 8 ≤ length l → f ≡ list_of 8 (8 * j) P ++ drop (8 * j) l
      → overwritten (8 * j) (tab 8 (λ m. w / 2 ^ (8 * m) % 256)) f ≡ list_of 8 (8 * (j + 1)) P ++ drop (8 * (j + 1)) l
  unfolding list_of
  laid l f room before =
      let next : 8 * j + 8 ≡ 8 * (j + 1) = omega arith in
      ap₂ (overwritten (8 * j)) (tab_ext 8 (λ m. w / 2 ^ (8 * m) % 256) (λ m. number 8 (λ e. P ((8 * j + m) * 8 + e))) byte_laid) before
      ∙ filled_part (8 * j) 8 (λ i. number 8 (λ e. P (i * 8 + e))) l room
      ∙ ap (λ (n : ℕ). tab n (λ i. number 8 (λ e. P (i * 8 + e))) ++ drop n l) next

-- a list that is filled from the left with the first m bytes of a polynomial
module _ (m : ℕ) (P : Poly) (l : List ℕ) where
  abbrev filled : List ℕ
  filled = list_of 8 m P ++ drop m l

  long : length (list_of 8 m P) ≡ m
  long = list_of-length 8 (lit< tt) m P

  pub filled_bits : (k : ℕ) → k < 8 * m → bits 8 filled k ≡ P k
  filled_bits =
      bits_by 8 filled P m (lit< tt)
      (λ i h e below.
      let place : i * 8 + e ≡ 8 * i + e = omega arith in
      ap (λ (b : ℕ). bit_at b e) (get_or-append (list_of 8 m P) (drop m l) 0 i (rw long h) ∙ list_of_at 8 (lit< tt) m P i h)
      ∙ bit_at-number 8 (λ j. P (i * 8 + j)) e below ∙ ap P place)

  -- the rest is as it was
  filled_past : (i : ℕ) → m ≤ i → get_or filled i 0 ≡ get_or l i 0
  filled_past i past =
      let rest : m + (i - m) ≡ i = omega arith in
      ap (λ (k : ℕ). get_or filled k 0) (sym (ap (λ (k : ℕ). k + (i - m)) long ∙ rest))
      ∙ get_or-append-add (list_of 8 m P) (drop m l) (i - m) 0 ∙ get_or-drop m l (i - m) 0 ∙ ap (λ (k : ℕ). get_or l k 0) rest

  pub filled_drop : (n : ℕ) → m ≤ n → drop n filled ≡ drop n l
  filled_drop n few =
      let rest : m + (n - m) ≡ n = omega arith in
      ap (λ (k : ℕ). drop k filled) (sym (ap (λ (k : ℕ). k + (n - m)) long ∙ rest))
      ∙ drop-append-add (list_of 8 m P) (drop m l) (n - m) ∙ drop-drop (n - m) m l ∙ ap (λ (k : ℕ). drop k l) rest

pub list_of_ext : (n : ℕ) {P Q : Poly} → ((k : ℕ) → k < 8 * n → P k ≡ Q k) → list_of 8 n P ≡ list_of 8 n Q
unfolding list_of
list_of_ext n {P} {Q} same =
    tab_ext n (λ i. number 8 (λ e. P (i * 8 + e))) (λ i. number 8 (λ e. Q (i * 8 + e)))
    (λ i h. number_ext 8 (λ e below. same (i * 8 + e) (omega arith)))

-- the word of r has the end of x and its beginning
pub seam : (r : ℕ) (xs : List ℕ) → r / 64 < length xs → 64 ≤ r → InRing r (bits 64 xs) → (e : ℕ) → e < 64
    → bit_at (bit_xor (get_or xs (r / 64) 0) (get_or xs 0 0 * 2 ^ (r % 64) % 2 ^ 64)) e ≡ twice r (bits 64 xs) (64 * (r / 64) + e)
seam r xs room big inside e below =
    let w : ℕ = bit_xor (get_or xs (r / 64) 0) (get_or xs 0 0 * 2 ^ (r % 64) % 2 ^ 64) in
    let place : (64 * (r / 64) + e) % 64 ≡ e = omega arith in
    sym (bits_set_same xs (r / 64) w room (64 * (r / 64) + e) (omega arith) ∙ ap (bit_at w) place)
    ∙ filled_up r xs room big inside (64 * (r / 64) + e) (omega arith)
    ∙ sym (twice-turned r (bits 64 xs) (64 * (r / 64) + e) (omega arith))

-- eight bits of two bytes in a row
pub joined_bits : (low high s e : ℕ) → low < 2 ^ 8 → s < 8 → e < 8
    → bit_at (bit_or (low / 2 ^ s) (high * 2 ^ (8 - s) % 2 ^ 8)) e ≡ bits 8 (low ∷ high ∷ []) (s + e)
joined_bits low high s e small within below =
    bit-or (low / 2 ^ s) (high * 2 ^ (8 - s) % 2 ^ 8) e
    ∙ ap₂ ◌||◌ (bit_shr low s e) (bit-mod (high * 2 ^ (8 - s)) 8 e below) ∙ go (dec_lt (e + s) 8)
  where
    go : Dec (e + s < 8) → bit_at low (e + s) || bit_at (high * 2 ^ (8 - s)) e ≡ bits 8 (low ∷ high ∷ []) (s + e)
    go (yes first) =
        ap (λ (b : Bool). bit_at low (e + s) || b) (bit_shl_below high (8 - s) e (omega arith)) ∙ or-false (bit_at low (e + s))
        ∙ sym (bits_at 8 (low ∷ high ∷ []) 0 (e + s) (omega arith) first)
    go (no second) =
        let place : e ≡ e + s - 8 + (8 - s) = omega arith in
        ap₂ ◌||◌ (bit_above low 8 (e + s) small (omega arith))
        (ap (bit_at (high * 2 ^ (8 - s))) place ∙ bit_shl high (8 - s) (e + s - 8))
        ∙ sym (bits_at 8 (low ∷ high ∷ []) 1 (e + s - 8) (omega arith) (omega arith))

-- two bytes of a list
pub two_bytes : (f : List ℕ) (i k : ℕ) → k < 16 → bits 8 (get_or f i 0 ∷ get_or f (i + 1) 0 ∷ []) k ≡ bits 8 f (8 * i + k)
two_bytes f i k below = go (dec_lt k 8)
  where
    go : Dec (k < 8) → bits 8 (get_or f i 0 ∷ get_or f (i + 1) 0 ∷ []) k ≡ bits 8 f (8 * i + k)
    go (yes first) = bits_at 8 _ 0 k (omega arith) first ∙ sym (bits_at 8 f i k (omega arith) first)
    go (no second) =
        bits_at 8 _ 1 (k - 8) (omega arith) (omega arith) ∙ sym (bits_at 8 f (i + 1) (k - 8) (omega arith) (omega arith))

-- the windows of what was laid twice and copied
module _ (r : ℕ) (x : Poly) (d f f₀ : List ℕ) (big : 64 ≤ r) (small : r < word_bits)
    (laid-twice : d ≡ list_of 8 (8 * ((2 * r + 63) / 64)) (twice r x) ++ drop (8 * ((2 * r + 63) / 64)) f₀)
    (copied : (s k : ℕ) → s < 8 → k < 8 * (16 * (r / 64 + 1)) → bits 8 f (8 * (s * row_bytes) + k) ≡ bits 8 d (s + k))
    (kept : (i : ℕ) → empty_row ≤ i → get_or f i 0 ≡ get_or d i 0) where
  pub held : (b k : ℕ) → b ≤ r → k < r → bits 8 f (8 * row_at b + k) ≡ x ((b + k) % r)
  unfolding row_at
  held b k low below =
      let place : 8 * (b % 8 * row_bytes + b / 8) + k ≡ 8 * (b % 8 * row_bytes) + (8 * (b / 8) + k) = omega arith in
      let whole : b % 8 + (8 * (b / 8) + k) ≡ b + k = omega arith in
      ap (bits 8 f) place ∙ copied (b % 8) (8 * (b / 8) + k) (omega arith) (omega arith)
      ∙ ap₂ (bits 8) laid-twice whole ∙ filled_bits (8 * ((2 * r + 63) / 64)) (twice r x) f₀ (b + k) (omega arith)
      ∙ twice-turned r x (b + k) (omega arith)

  pub still_empty : EmptyRow f₀ → EmptyRow f
  still_empty empty k below =
      let at : 8 * empty_row + k ≡ 8 * (empty_row + k / 8) + k % 8 = omega arith in
      bits_at 8 f (empty_row + k / 8) (k % 8) at (omega arith)
      ∙ ap (λ (b : ℕ). bit_at b (k % 8))
      (kept (empty_row + k / 8) (omega arith) ∙ ap (λ (xs : List ℕ). get_or xs (empty_row + k / 8) 0) laid-twice
      ∙ filled_past (8 * ((2 * r + 63) / 64)) (twice r x) f₀ (empty_row + k / 8) (omega arith))
      ∙ sym (bits_at 8 f₀ (empty_row + k / 8) (k % 8) at (omega arith)) ∙ empty k below

-- room that was never written to
pub blank_room : {f : List ℕ} → f ≡ replicate rows_bytes 0 → EmptyRow f
blank_room blank k below =
    ap (λ (xs : List ℕ). bits 8 xs (8 * empty_row + k)) blank ∙ bits_none 8 rows_bytes (8 * empty_row + k)

-- the first n bytes of a list
pub taken-bits : (z : List ℕ) (n k : ℕ) → k < 8 * n → bits 8 (take n z) k ≡ bits 8 z k
unfolding bits
taken-bits z n k below = ap (λ (b : ℕ). bit_at b (k % 8)) (get_or-take n z (k / 8) 0 (omega arith))

-- where a row starts, and that its window lies within the rows
module _ (r : ℕ) (positions : List ℕ) (d i : ℕ) where
  turned-row : i < d → turned_row r positions d i ≡ row_at (r - get_or positions i 0)
  unfolding turned_row
  turned-row h = rw (lt-ltb i d h, turned_row)

  pub turned_past : d ≤ i → turned_row r positions d i ≡ empty_row
  unfolding turned_row
  turned_past h = rw (le-ltb i d h, turned_row)

  pub turned_room : r < word_bits → turned_row r positions d i ≤ empty_row
  unfolding row_at
  turned_room small = go (dec_lt i d)
    where
      go : Dec (i < d) → turned_row r positions d i ≤ empty_row
      go (yes h) = let at = turned-row h in omega arith
      go (no h) = let at = turned_past (omega arith) in omega arith

-- the rows of the positions add up to a product
module _ (r : ℕ) (big : 64 ≤ r) (x : Poly) (f positions : List ℕ) (d : ℕ) (held : ByteRows r x f) (room : d ≤ length positions)
    (below : (i : ℕ) → i < d → get_or positions i 0 < r) where
  turned : (i k : ℕ) → i < d → k < r → bits 8 f (8 * turned_row r positions d i + k) ≡ window r x (r - get_or positions i 0) k
  unfolding window
  turned i k h low =
      let start : r - get_or positions i 0 ≤ r = omega arith in
      ap (λ (at : ℕ). bits 8 f (8 * at + k)) (turned-row r positions d i h) ∙ held (r - get_or positions i 0) k start low
      ∙ rw (le-leb (r - get_or positions i 0) r start) refl

  pub rows_product : (k : ℕ) → k < r → parity d (λ i. bits 8 f (8 * turned_row r positions d i + k)) ≡ mul r (terms r (take d positions)) x k
  rows_product k low =
      parity_ext d (λ i h. turned i k h low) ∙ sym (rw (lt-ltb k r low))
      ∙ ap (λ (p : Poly). p k)
      (windows_product r pos x {y = λ j. ltb j r && parity d (λ i. window r x (r - get_or positions i 0) j)} d (λ i. r - get_or positions i 0) (λ i. take i positions) refl
      (λ j i h more. term_more r pos positions i (r - get_or positions i 0) x j (omega arith) (below i more) h refl)
      (below_in r (λ j. parity d (λ i. window r x (r - get_or positions i 0) j)))
      (λ j h. rw (lt-ltb j r h)))
    where
      pos : 0 < r
      pos = omega arith
