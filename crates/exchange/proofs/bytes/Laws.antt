-- A buffer that is copied, chosen under a mask or compared, byte by byte. Assumes nothing.
use mathlib.Core.Path.{◌≡◌, sym, ap, ◌∙◌}
use mathlib.Core.List.{List, ◌++◌}
use Prim.Native.Nat.{ℕ, ◌+◌, ◌%◌, ◌^◌, ◌<◌}
use native.Mathlib.Nat.{mod-eq_of_lt}
use native.Mathlib.Numerals.{add-one}
use native.Mathlib.Omega.{arith}
use lib.Bits.{bit_and, bit_or, and_mask, and_zero_r, or_zero_l, or_zero_r}
use lib.ListN.{length, get_or, set, take, drop}
use lib.Seq.{take-suc, take-take, get_or-take}
use Rattle.hashing.specs.Lists.{tab}
use Rattle.hashing.proofs.Lists.{filled_more, filled_all, tab-get_or}

-- a loop that copies xs over l: i elements are done
abbrev pub Copied : List ℕ → List ℕ → ℕ → List ℕ → Type 0
Copied xs l i now = now ≡ tab i (λ (k : ℕ). get_or xs k 0) ++ drop i l

pub copied_more : (xs l : List ℕ) (i : ℕ) {v : ℕ} {now : List ℕ} → i < length l → v ≡ get_or xs i 0 → Copied xs l i now → Copied xs l (i + 1) (set now i v)
copied_more xs l i more same so_far = rw (same, so_far) (filled_more i (λ (k : ℕ). get_or xs k 0) l 0 more)

pub copied_all : (xs l : List ℕ) (i : ℕ) {now : List ℕ} → i ≡ length xs → length l ≡ length xs → Copied xs l i now → now ≡ xs
copied_all xs l i all long done =
    done ∙ rw all (filled_all (length xs) (λ (k : ℕ). get_or xs k 0) l long) ∙ tab-get_or xs 0

-- the masks 255 and 0
pub picks_first : (a b : ℕ) → a < 2 ^ 8 → bit_or (bit_and a 255) (bit_and b 0) ≡ a
picks_first a b small = rw (and_mask a 8, and_zero_r b) (or_zero_r (a % 2 ^ 8) ∙ mod-eq_of_lt small)

pub picks_second : (a b : ℕ) → b < 2 ^ 8 → bit_or (bit_and a 0) (bit_and b 255) ≡ b
picks_second a b small = rw (and_mask b 8, and_zero_r a) (or_zero_l (b % 2 ^ 8) ∙ mod-eq_of_lt small)

-- a loop that compares a and b: i elements were looked at
module _ (a b : List ℕ) (long : length a ≡ length b) (i : ℕ) (more : i < length a) where
  front : take (i + 1) a ≡ take (i + 1) b → take i a ≡ take i b
  front same =
      sym (take-take i (i + 1) a (omega arith)) ∙ ap (take i) same ∙ take-take i (i + 1) b (omega arith)

  last : take (i + 1) a ≡ take (i + 1) b → get_or a i 0 ≡ get_or b i 0
  last same =
      sym (get_or-take (i + 1) a i 0 (omega arith)) ∙ ap (λ (l : List ℕ). get_or l i 0) same ∙ get_or-take (i + 1) b i 0 (omega arith)

  joined : take i a ≡ take i b → get_or a i 0 ≡ get_or b i 0 → take (i + 1) a ≡ take (i + 1) b
  joined so_far here =
      let more' : i < length b = omega arith in rw (add-one i, take-suc a i 0 more, take-suc b i 0 more', so_far, here)
