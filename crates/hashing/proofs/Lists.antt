-- Laws of `tab`, for the loops that fill an array element by element. Assumes nothing.
use mathlib.Core.Path.{◌≡◌, refl, sym, ap, ◌∙◌}
use mathlib.Core.List.{List, [], ◌∷◌, ◌++◌, append-nil, append_assoc}
use Prim.Native.Nat.{ℕ, zero, suc, ◌+◌, ◌-◌, ◌≤◌, ◌<◌}
use native.Mathlib.Nat.{not-suc-le-zero, le_refl, le_of_eq, add-zero, add-suc, add-sub_of_le}
use native.Mathlib.Decide.{dec_lt}
use native.Mathlib.Numerals.{add-one}
use native.Mathlib.Omega.{arith}
use lib.ListN.{length, get_or, set, take, drop, length-append, drop_of_length-le, get_or-append}
use lib.Seq.{ext_get_or, get_or_at, drop-cons, set_at, take_at, drop_at}
use Rattle.hashing.specs.Lists.{tab}

module _ {ℓ} {A : Type ℓ} where
  pub length-tab : (n : ℕ) (f : ℕ → A) → length (tab n f) ≡ n
  unfolding tab
  length-tab zero f = refl
  length-tab (suc n) f = length-append (tab n f) (f n ∷ []) ∙ ap (λ (m : ℕ). m + 1) (length-tab n f) ∙ add-one n

  pub get_or-tab : (n : ℕ) (f : ℕ → A) (d : A) (i : ℕ) → i < n → get_or (tab n f) i d ≡ f i
  unfolding tab
  get_or-tab zero f d i h = absurd (not-suc-le-zero h)
  get_or-tab (suc n) f d i h = go (dec_lt i n) (get_or-tab n f d i)
    where
      go : Dec (i < n) → (i < n → get_or (tab n f) i d ≡ f i) → get_or (tab n f ++ (f n ∷ [])) i d ≡ f i
      go (yes below) before =
          get_or-append (tab n f) (f n ∷ []) d i (rw length-tab below) ∙ before below
      go (no reached) before =
          let last : i ≡ n = omega arith in rw last (get_or_at (tab n f) (f n) [] d n (length-tab n f))

  -- a list is the table of its own elements
  pub tab-get_or : (l : List A) (d : A) → tab (length l) (λ k. get_or l k d) ≡ l
  tab-get_or l d =
      ext_get_or d (tab (length l) (λ k. get_or l k d)) l (length-tab (length l) (λ k. get_or l k d))
      (λ i h. get_or-tab (length l) (λ k. get_or l k d) d i (rw length-tab at h))

  -- two tables are equal where their rules agree
  pub tab_ext : (n : ℕ) (f g : ℕ → A) → ((i : ℕ) → i < n → f i ≡ g i) → tab n f ≡ tab n g
  unfolding tab
  tab_ext zero f g h = refl
  tab_ext (suc n) f g h =
      rw (tab_ext n f g (λ i below. h i (omega arith)), h n (le_refl (suc n)))

  -- a loop that fills l from the left: i elements are done
  pub filled_none : (f : ℕ → A) (l : List A) → l ≡ tab 0 f ++ drop 0 l
  unfolding tab
  filled_none f l = refl

  pub filled_more : (i : ℕ) (f : ℕ → A) (l : List A) (d : A) → i < length l
      → set (tab i f ++ drop i l) i (f i) ≡ tab (i + 1) f ++ drop (i + 1) l
  unfolding tab
  filled_more i f l d h =
      rw (add-one i, drop-cons l i d h, set_at (tab i f) (get_or l i d) (drop (suc i) l) (f i) i (length-tab i f))
      (sym (append_assoc (tab i f) (f i ∷ []) (drop (suc i) l)))

  pub filled_again : (i : ℕ) (f : ℕ → A) (l rest : List A) → l ≡ tab i f ++ rest → l ≡ tab i f ++ drop i l
  filled_again i f l rest done = done ∙ ap (λ (xs : List A). tab i f ++ xs) (sym (ap (drop i) done ∙ drop_at (tab i f) rest i (length-tab i f)))

  pub filled_all : (n : ℕ) (f : ℕ → A) (l : List A) → length l ≡ n → tab n f ++ drop n l ≡ tab n f
  filled_all n f l h = rw (drop_of_length-le l (le_of_eq h)) (append-nil (tab n f))

  -- a constant table that equals a rule's table meets the rule at each of its entries
  pub from_table : (n : ℕ) (f : ℕ → A) (d : A) {l : List A} → l ≡ tab n f → (i : ℕ) → i < n → get_or l i d ≡ f i
  from_table n f d e i h = rw e (get_or-tab n f d i h)

  -- tables joined and cut
  pub tab-append : (m n : ℕ) (f : ℕ → A) → tab (m + n) f ≡ tab m f ++ tab n (λ k. f (m + k))
  unfolding tab
  tab-append m zero f = rw (add-zero, append-nil)
  tab-append m (suc n) f =
      rw (add-suc m n, tab-append m n f) (append_assoc (tab m f) (tab n (λ k. f (m + k))) (f (m + n) ∷ []))

  pub take-tab : (n m : ℕ) (f : ℕ → A) → n ≤ m → take n (tab m f) ≡ tab n f
  take-tab n m f h =
      rw (← add-sub_of_le h, tab-append n (m - n) f) (take_at (tab n f) (tab (m - n) (λ k. f (n + k))) n (length-tab n f))

  pub drop-tab : (n m : ℕ) (f : ℕ → A) → drop n (tab (n + m) f) ≡ tab m (λ k. f (n + k))
  drop-tab n m f = rw (tab-append n m f) (drop_at (tab n f) (tab m (λ k. f (n + k))) n (length-tab n f))
