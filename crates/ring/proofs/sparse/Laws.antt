-- The sparse product: windows of a polynomial held twice in a row, and a product term by term. Assumes nothing.
use mathlib.Core.Path.{◌≡◌, sym, ap, ap₂, fun_ext, ◌∙◌}
use mathlib.Core.Bool.{Bool, false, ◌||◌, or-false}
use mathlib.Core.Logic.{inl, inr}
use mathlib.Core.List.{List, [], ◌∷◌, ◌++◌, append-nil}
use Prim.Native.Nat.{ℕ, zero, suc, ◌+◌, ◌-◌, ◌*◌, ◌/◌, ◌%◌, ◌^◌, ◌≤◌, ◌<◌}
use native.Mathlib.Nat.{le_refl, mod-eq_of_lt, mod-eq-sub-mod, mul_comm, mul_assoc}
use native.Mathlib.Decide.{dec_lt, ℕ_discrete}
use native.Mathlib.Numerals.{add-one}
use native.Mathlib.Omega.{arith}
use borrow.Author.Tests.{le-leb, lt-leb}
use lib.Bits.{bit_or, bit_xor}
use lib.ListN.{length, get_or, set, replicate, take, get_or-replicate}
use lib.Pow.{pow-add}
use lib.Seq.{take-suc}
use Rattle.hashing.specs.Lists.{bit_at, bits}
use Rattle.hashing.proofs.Words.{bit-or, bit-mod, bit_shl, bit_shl_below, bit_shr, bits_at, bit_above}
use Rattle.ring.specs.Polynomials.{Poly, InRing, flip, parity, over, power, add, terms, mul}
use Rattle.ring.specs.inner.Sizes.{word_bits, most_starts, empty_window}
use Rattle.ring.specs.inner.Upper.{upper}
use Rattle.ring.specs.inner.Windows.{Start, window, UpperStart}
use Rattle.ring.proofs.Parity.{flip_assoc, flip_false, parity_false}
use Rattle.ring.proofs.Powers.{mul_mod_mod}
use Rattle.ring.proofs.Ring
use Rattle.ring.proofs.Upper.{upper_snoc, upper_low, upper_high}
use Rattle.ring.proofs.Packed.{bit-flip, bits_set_same, bits_set_other}

-- 64 bits of two words in a row
pub join_bits : (low high s e : ℕ) → low < 2 ^ 64 → s < 64 → e < 64
    → bit_at (bit_or (low / 2 ^ s) (high * 2 % 2 ^ 64 * 2 ^ (63 - s) % 2 ^ 64)) e ≡ bits 64 (low ∷ high ∷ []) (s + e)
join_bits low high s e small within below =
    bit-or (low / 2 ^ s) (high * 2 % 2 ^ 64 * 2 ^ (63 - s) % 2 ^ 64) e
    ∙ ap₂ ◌||◌ (bit_shr low s e) (ap (λ (x : ℕ). bit_at x e) once ∙ bit-mod (high * 2 ^ (64 - s)) 64 e below) ∙ go (dec_lt (e + s) 64)
  where
    once : high * 2 % 2 ^ 64 * 2 ^ (63 - s) % 2 ^ 64 ≡ high * 2 ^ (64 - s) % 2 ^ 64
    once =
        let more : 63 - s + 1 ≡ 64 - s = omega arith in
        ap (λ (x : ℕ). x % 2 ^ 64) (mul_comm (high * 2 % 2 ^ 64) (2 ^ (63 - s))) ∙ mul_mod_mod (2 ^ (63 - s)) (high * 2) (2 ^ 64)
        ∙ ap (λ (x : ℕ). x % 2 ^ 64)
        (mul_comm (2 ^ (63 - s)) (high * 2) ∙ mul_assoc high 2 (2 ^ (63 - s))
        ∙ ap (λ (x : ℕ). high * x) (mul_comm 2 (2 ^ (63 - s)) ∙ sym (pow-add 2 (63 - s) 1) ∙ ap (λ (n : ℕ). 2 ^ n) more))

    go : Dec (e + s < 64) → bit_at low (e + s) || bit_at (high * 2 ^ (64 - s)) e ≡ bits 64 (low ∷ high ∷ []) (s + e)
    go (yes first) =
        ap (λ (b : Bool). bit_at low (e + s) || b) (bit_shl_below high (64 - s) e (omega arith)) ∙ or-false (bit_at low (e + s))
        ∙ sym (bits_at 64 (low ∷ high ∷ []) 0 (e + s) (omega arith) first)
    go (no second) =
        let place : e ≡ e + s - 64 + (64 - s) = omega arith in
        ap₂ ◌||◌ (bit_above low 64 (e + s) small (omega arith))
        (ap (bit_at (high * 2 ^ (64 - s))) place ∙ bit_shl high (64 - s) (e + s - 64))
        ∙ sym (bits_at 64 (low ∷ high ∷ []) 1 (e + s - 64) (omega arith) (omega arith))

-- two words of a list
pub pair_bits : (d : List ℕ) (i k : ℕ) → k < 128 → bits 64 (get_or d i 0 ∷ get_or d (i + 1) 0 ∷ []) k ≡ bits 64 d (64 * i + k)
pair_bits d i k below = go (dec_lt k 64)
  where
    go : Dec (k < 64) → bits 64 (get_or d i 0 ∷ get_or d (i + 1) 0 ∷ []) k ≡ bits 64 d (64 * i + k)
    go (yes first) = bits_at 64 _ 0 k (omega arith) first ∙ sym (bits_at 64 d i k (omega arith) first)
    go (no second) =
        bits_at 64 _ 1 (k - 64) (omega arith) (omega arith) ∙ sym (bits_at 64 d (i + 1) (k - 64) (omega arith) (omega arith))

-- a term more
pub terms_snoc : (r : ℕ) (ps : List ℕ) (p : ℕ) → terms r (ps ++ (p ∷ [])) ≡ add (terms r ps) (power r p)
unfolding terms add
terms_snoc r [] p = fun_ext (λ k. flip_false (power r p k))
terms_snoc r (q ∷ rest) p =
    fun_ext (λ k. ap (λ (t : Poly). flip (power r q k) (t k)) (terms_snoc r rest p) ∙ sym (flip_assoc (power r q k) (terms r rest k) (power r p k)))

term_none : (r : ℕ) (x : Poly) (k : ℕ) → mul r (terms r []) x k ≡ false
unfolding mul over terms
term_none r x k = parity_false r

-- a window that starts in the first of the two, and the empty one
window_at : (r : ℕ) (x : Poly) (from k : ℕ) → from ≤ r → window r x from k ≡ x ((from + k) % r)
unfolding window
window_at r x from k low = rw (le-leb from r low)

window_empty : (r : ℕ) (x : Poly) (k : ℕ) → r < word_bits → window r x empty_window k ≡ false
unfolding window
window_empty r x k small = rw (lt-leb empty_window r (omega arith))

-- what stands in d shows them
pub window_of : (r : ℕ) (x d : Poly) (from k : ℕ) → r < word_bits → Start r from → k < r
    → ((j : ℕ) → j < r + r → d j ≡ x (j % r)) → InRing empty_window d → d (from + k) ≡ window r x from k
window_of r x d from k small (inl low) below held empty = held (from + k) (omega arith) ∙ sym (window_at r x from k low)
window_of r x d from k small (inr none) below held empty =
    rw none (empty (empty_window + k) (omega arith) ∙ sym (window_empty r x k small))

-- windows that are added one by one: the list of exponents grows with them, or stays as it is
windows_sum : (r : ℕ) (x : Poly) (k n : ℕ) (window : ℕ → Bool) (list : ℕ → List ℕ) → list 0 ≡ []
    → ((i : ℕ) → i < n → mul r (terms r (list (i + 1))) x k ≡ flip (mul r (terms r (list i)) x k) (window i))
    → parity n window ≡ mul r (terms r (list n)) x k
unfolding parity
windows_sum r x k zero window list none more = sym (ap (λ (ps : List ℕ). mul r (terms r ps) x k) none ∙ term_none r x k)
windows_sum r x k (suc n) window list none more =
    ap (λ (b : Bool). flip b (window n)) (windows_sum r x k n window list none (λ i h. more i (omega arith)))
    ∙ sym (rw (add-one n) at (more n (le_refl (suc n))))

module _ (r : ℕ) (pos : 0 < r) where
  -- a term more turns x by p places
  term_snoc : (ps : List ℕ) (p : ℕ) (x : Poly) (k : ℕ) → p < r → k < r
      → mul r (terms r (ps ++ (p ∷ []))) x k ≡ flip (mul r (terms r ps) x k) (x ((r - p + k) % r))
  unfolding add
  term_snoc ps p x k low below =
      let turn : k + r - p % r ≡ r - p + k = rw (mod-eq_of_lt low) (omega arith) in
      rw (terms_snoc r ps p, Ring.add-mul r (terms r ps) (power r p) x)
      (ap (flip (mul r (terms r ps) x k)) (Ring.power-mul r pos p x k below ∙ ap (λ (n : ℕ). x (n % r)) turn))

  pub term_more : (ps : List ℕ) (i from : ℕ) (x : Poly) (k : ℕ) → i < length ps → get_or ps i 0 < r → k < r → from ≡ r - get_or ps i 0
      → mul r (terms r (take (i + 1) ps)) x k ≡ flip (mul r (terms r (take i ps)) x k) (window r x from k)
  term_more ps i from x k more low below start =
      rw (add-one i, take-suc ps i 0 more, start, window_at r x (r - get_or ps i 0) k (omega arith))
      (term_snoc (take i ps) (get_or ps i 0) x k low below)

  -- of positions below 2r, the next: a term more, or none
  pub upper_more : (ps : List ℕ) (i from : ℕ) (x : Poly) (k : ℕ) → r < word_bits → i < length ps → get_or ps i 0 < r + r → k < r
      → UpperStart r (get_or ps i 0) from
      → mul r (terms r (upper r (take (i + 1) ps))) x k ≡ flip (mul r (terms r (upper r (take i ps))) x k) (window r x from k)
  unfolding upper
  upper_more ps i from x k small more low below start =
      rw (add-one i, take-suc ps i 0 more, upper_snoc r (take i ps) (get_or ps i 0)) (go (dec_lt (get_or ps i 0) r))
    where
      p : ℕ
      p = get_or ps i 0

      first : List ℕ
      first = upper r (take i ps)

      go : Dec (p < r) → mul r (terms r (first ++ upper r (p ∷ []))) x k ≡ flip (mul r (terms r first) x k) (window r x from k)
      go (yes lower) =
          rw (upper_low r p [] lower, append-nil first, start.1 lower, window_empty r x k small) (sym (flip_false (mul r (terms r first) x k)))
      go (no h) =
          let high : r ≤ p = omega arith in
          let turn : r - (p - r) ≡ r + r - p = omega arith in
          rw (upper_high r p [] high, start.0 high, window_at r x (r + r - p) k (omega arith), ← turn) (term_snoc first (p - r) x k (omega arith) below)

  -- a sum of windows is a product by the list that they stand for
  pub windows_product : (x : Poly) {y : Poly} (n : ℕ) (from : ℕ → ℕ) (list : ℕ → List ℕ) → list 0 ≡ []
      → ((k i : ℕ) → k < r → i < n → mul r (terms r (list (i + 1))) x k ≡ flip (mul r (terms r (list i)) x k) (window r x (from i) k))
      → InRing r y → ((k : ℕ) → k < r → y k ≡ parity n (λ i. window r x (from i) k)) → y ≡ mul r (terms r (list n)) x
  windows_product x n from list none more inside sum =
      Ring.ring_ext r inside (Ring.mul_in r pos (terms r (list n)) x)
      (λ k below. sum k below ∙ windows_sum r x k n (λ i. window r x (from i) k) list none (λ i h. more k i below h))

pub upper_is_start : (r p from : ℕ) → UpperStart r p from → Start r from
upper_is_start r p from start = go (dec_lt p r)
  where
    go : Dec (p < r) → Start r from
    go (yes low) = inr (start.1 low)
    go (no high) = let at = start.0 (omega arith) in inl (omega arith)

-- none is stored yet
pub starts_empty : {from : List ℕ} → from ≡ replicate most_starts empty_window → (j : ℕ) → j < most_starts → get_or from j 0 ≡ empty_window
starts_empty none j room = ap (λ (xs : List ℕ). get_or xs j 0) none ∙ get_or-replicate most_starts j empty_window 0 room

-- the word of r is filled up from the first
module _ (r : ℕ) (xs : List ℕ) (room : r / 64 < length xs) (big : 64 ≤ r) (inside : InRing r (bits 64 xs)) where
  pub filled_up : (k : ℕ) → k < 64 * (r / 64 + 1)
      → bits 64 (set xs (r / 64) (bit_xor (get_or xs (r / 64) 0) (get_or xs 0 0 * 2 ^ (r % 64) % 2 ^ 64))) k ≡ bits 64 xs (k % r)
  filled_up k below = go (ℕ_discrete (k / 64) (r / 64)) (dec_lt k r)
    where
      first : ℕ
      first = get_or xs 0 0 * 2 ^ (r % 64) % 2 ^ 64

      within : k / 64 ≡ r / 64
          → bits 64 (set xs (r / 64) (bit_xor (get_or xs (r / 64) 0) first)) k ≡ flip (bits 64 xs k) (bit_at (get_or xs 0 0 * 2 ^ (r % 64)) (k % 64))
      within same =
          bits_set_same xs (r / 64) (bit_xor (get_or xs (r / 64) 0) first) room k same ∙ bit-flip (get_or xs (r / 64) 0) first (k % 64)
          ∙ ap₂ flip (sym (bits_at 64 xs (r / 64) (k % 64) (omega arith) (omega arith)))
          (bit-mod (get_or xs 0 0 * 2 ^ (r % 64)) 64 (k % 64) (omega arith))

      go : Dec (k / 64 ≡ r / 64) → Dec (k < r) → bits 64 (set xs (r / 64) (bit_xor (get_or xs (r / 64) 0) first)) k ≡ bits 64 xs (k % r)
      go (yes same) (yes low) =
          within same ∙ ap (flip (bits 64 xs k)) (bit_shl_below (get_or xs 0 0) (r % 64) (k % 64) (omega arith))
          ∙ flip_false (bits 64 xs k) ∙ ap (bits 64 xs) (sym (mod-eq_of_lt low))
      go (yes same) (no past) =
          let over : r ≤ k = omega arith in
          let place : k % 64 ≡ k - r + r % 64 = omega arith in
          let turned : k % r ≡ k - r = mod-eq-sub-mod over ∙ mod-eq_of_lt (omega arith) in
          within same ∙ ap₂ flip (inside k over) (ap (bit_at (get_or xs 0 0 * 2 ^ (r % 64))) place ∙ bit_shl (get_or xs 0 0) (r % 64) (k - r))
          ∙ sym (bits_at 64 xs 0 (k - r) (omega arith) (omega arith)) ∙ ap (bits 64 xs) (sym turned)
      go (no other) d =
          bits_set_other xs (r / 64) (bit_xor (get_or xs (r / 64) 0) first) k other ∙ ap (bits 64 xs) (sym (mod-eq_of_lt (omega arith)))
