-- Drawing: what a run of words that are passed over leaves, and a word that is taken; what is listed in the end. Assumes nothing.
use mathlib.Core.Path.{◌≡◌, refl, sym, ap, ◌∙◌}
use mathlib.Core.Bool.{Bool, true, false, not, ◌&&◌, and-false, or-true, false≢true}
use mathlib.Core.List.{List, [], ◌∷◌, ◌++◌}
use mathlib.Core.Logic.{⊎_elim}
use Prim.Native.Nat.{ℕ, zero, suc, ◌+◌, ◌-◌, ◌≤◌, ◌<◌, zero-le}
use native.Mathlib.Nat.{add-zero, not-suc-le-zero}
use native.Mathlib.Numerals.{add-one}
use native.Mathlib.Omega.{arith}
use lib.Bits.{bit_and}
use lib.Dec.{ltb, eqb}
use lib.ListN.{length, get_or, set, take, drop, length-append}
use lib.Seq.{drop-cons, drop-length, take-suc-set, length-take-le}
use borrow.Author.Tests.{lt-ltb, le-ltb, ltb-true, eq-eqb, eqb-true}
use Rattle.ring.specs.Levels.{Level}
use Rattle.ring.specs.Polynomials.{listed}
use Rattle.ring.proofs.Bools.{one_true}
use Rattle.ring.proofs.Upper.{Distinct}
use Rattle.exchange.specs.Fair.{Drawn, mask_of, taken, draw_one, draw_on, draw, drawn_for}
use Rattle.exchange.proofs.sampler.Laws.{listed_snoc, distinct_snoc}

-- a position is passed over where it is not below r or is listed, and else taken
module _ (r pos : ℕ) (list : List ℕ) where
  pub passed_high : r ≤ pos → taken r pos list ≡ false
  unfolding taken
  passed_high high = rw (le-ltb pos r high)

  pub passed_listed : listed pos list ≡ true → taken r pos list ≡ false
  unfolding taken
  passed_listed old = rw old (and-false (ltb pos r))

  pub taken_new : pos < r → listed pos list ≡ false → taken r pos list ≡ true
  unfolding taken
  taken_new low new = rw (lt-ltb pos r low, new)

pub listed_at : (pos : ℕ) (list : List ℕ) (k : ℕ) → k < length list → pos ≡ get_or list k 0 → listed pos list ≡ true
unfolding listed
listed_at pos [] k within here = absurd (not-suc-le-zero within)
listed_at pos (x ∷ list) zero within here = rw (eq-eqb pos x here)
listed_at pos (x ∷ list) (suc k) within here = rw (listed_at pos list k (omega arith) here) (or-true (eqb pos x))

-- what the loop holds: its list, and the number of words used
abbrev pub held : List ℕ → ℕ → Drawn
held list used = record { positions = list; used = used; passed = used - length list }

module _ (r d mask : ℕ) where
  -- where d positions are listed, and where no word is left, nothing is drawn
  pub draw_full : (words : List ℕ) (so : Drawn) → d ≤ length so.positions → draw_on r d mask words so ≡ so
  unfolding draw_on
  draw_full [] so full = refl
  draw_full (word ∷ rest) so full = rw (le-ltb (length so.positions) d full, draw_on)

  -- one word
  draw-next : (word : ℕ) (rest : List ℕ) (so : Drawn) → length so.positions < d
      → draw_on r d mask (word ∷ rest) so ≡ draw_on r d mask rest (draw_one r mask word so)
  unfolding draw_on
  draw-next word rest so more = rw (lt-ltb (length so.positions) d more, draw_on)

  one_passed : (word : ℕ) (list : List ℕ) (used : ℕ) → length list ≤ used → taken r (bit_and word mask) list ≡ false
      → draw_one r mask word (held list used) ≡ held list (suc used)
  unfolding draw_one
  one_passed word list used few over =
      let more : suc used - length list ≡ suc (used - length list) = omega arith in
      rw (over, draw_one) (ap (λ (n : ℕ). record { positions = list; used = suc used; passed = n }) (sym more))

  one-taken : (word : ℕ) (list : List ℕ) (used : ℕ) → length list ≤ used → taken r (bit_and word mask) list ≡ true
      → draw_one r mask word (held list used) ≡ held (list ++ (bit_and word mask ∷ [])) (suc used)
  unfolding draw_one
  one-taken word list used few in_List =
      let long : length (list ++ (bit_and word mask ∷ [])) ≡ length list + 1 = length-append list (bit_and word mask ∷ []) in
      let same : suc used - length (list ++ (bit_and word mask ∷ [])) ≡ used - length list = omega arith in
      rw (in_List, draw_one) (ap (λ (n : ℕ). record { positions = list ++ (bit_and word mask ∷ []); used = suc used; passed = n }) (sym same))

  -- n words from place `used` on are passed over
  draw_past : (words list : List ℕ) (n used : ℕ) → used + n ≤ length words → length list < d → length list ≤ used
      → ((j : ℕ) → used ≤ j → j < used + n → taken r (bit_and (get_or words j 0) mask) list ≡ false)
      → draw_on r d mask (drop used words) (held list used) ≡ draw_on r d mask (drop (used + n) words) (held list (used + n))
  draw_past words list zero used room more few over = rw (add-zero used)
  draw_past words list (suc n) used room more few over =
      let next : suc used + n ≡ used + suc n = omega arith in
      rw (drop-cons words used 0 (omega arith), draw-next (get_or words used 0) (drop (suc used) words) (held list used) more)
      (rw (one_passed (get_or words used 0) list used few (over used (omega arith) (omega arith)))
      (draw_past words list n (suc used) (omega arith) more (omega arith) (λ j low high. over j (omega arith) (omega arith)) ∙ rw next))

  module _ (words list : List ℕ) (n used at : ℕ) (size : length list ≡ d) (room : n < length list) (few : n ≤ used) (low : used ≤ at)
      (over : (j : ℕ) → used ≤ j → j < at → taken r (bit_and (get_or words j 0) mask) (take n list) ≡ false) where
    -- with n positions listed, the words from `used` to `at` are passed over
    up_to : at ≤ length words
        → draw_on r d mask (drop used words) (held (take n list) used) ≡ draw_on r d mask (drop at words) (held (take n list) at)
    up_to within =
        let long : length (take n list) ≡ n = length-take-le n list (omega arith) in
        let until : used + (at - used) ≡ at = omega arith in
        draw_past words (take n list) (at - used) used (omega arith) (omega arith) (omega arith) (λ j from below. over j from (omega arith))
        ∙ rw until

    -- and none is left, or the one at `at` is taken
    pub draw_end : at ≡ length words → draw_on r d mask (drop used words) (held (take n list) used) ≡ held (take n list) at
    unfolding draw_on
    draw_end end = up_to (omega arith) ∙ rw (end, drop-length words)

    pub draw-turn : at < length words → taken r (bit_and (get_or words at 0) mask) (take n list) ≡ true
        → draw_on r d mask (drop (at + 1) words) (held (take (n + 1) (set list n (bit_and (get_or words at 0) mask))) (at + 1))
        ≡ draw_on r d mask (drop used words) (held (take n list) used)
    draw-turn within here =
        let long : length (take n list) ≡ n = length-take-le n list (omega arith) in
        sym
        (up_to (omega arith)
        ∙ rw (drop-cons words at 0 within, draw-next (get_or words at 0) (drop (suc at) words) (held (take n list) at) (omega arith))
        (rw (one-taken (get_or words at 0) (take n list) at (omega arith) here, add-one at, add-one n, take-suc-set list n (bit_and (get_or words at 0) mask) room)))

-- ---- what is listed

-- positions below r, no two equal, at most d; every word used is listed or passed over
pub record Sound (r d : ℕ) (so : Drawn) : Type 0 where
  pub within : (p : ℕ) → listed p so.positions ≡ true → p < r
  pub apart : Distinct so.positions
  pub few : length so.positions ≤ d
  pub counted : so.used ≡ so.passed + length so.positions

module _ (r d mask : ℕ) where
  one_sound : (word : ℕ) (so : Drawn) → length so.positions < d → Sound r d so → Sound r d (draw_one r mask word so)
  unfolding draw_one taken
  one_sound word so more sound = go (ltb pos r) (listed pos so.positions) refl refl
    where
      pos : ℕ
      pos = bit_and word mask

      over : Sound r d (record { positions = so.positions; used = suc so.used; passed = suc so.passed })
      over = record { within = sound.within; apart = sound.apart; few = sound.few; counted = omega (arith, sound.counted) }

      go : (below old : Bool) → ltb pos r ≡ below → listed pos so.positions ≡ old
          → Sound r d
          (elim (below && not old) as (λ _. Drawn) [
            | true ↦ record { positions = so.positions ++ (pos ∷ []); used = suc so.used; passed = so.passed }
            | false ↦ record { positions = so.positions; used = suc so.used; passed = suc so.passed }
          ])
      go true false small new =
          let long : length (so.positions ++ (pos ∷ [])) ≡ length so.positions + 1 = length-append so.positions (pos ∷ []) in
          record {
            within = λ p e.
                ⊎_elim (sound.within p) (λ last. rw (eqb-true p pos last) (ltb-true pos r small))
                (one_true (listed p so.positions) (eqb p pos) (sym (listed_snoc p so.positions pos) ∙ e));
            apart = distinct_snoc so.positions pos sound.apart new;
            few = omega arith;
            counted = omega (arith, sound.counted);
          }
      go true true small old = over
      go false old small is = over

  drawn_sound : (words : List ℕ) (so : Drawn) → Sound r d so → Sound r d (draw_on r d mask words so)
  unfolding draw_on
  drawn_sound [] so sound = sound
  drawn_sound (word ∷ rest) so sound = go (ltb (length so.positions) d) refl (drawn_sound rest (draw_one r mask word so))
    where
      go : (more : Bool) → ltb (length so.positions) d ≡ more
          → (Sound r d (draw_one r mask word so) → Sound r d (draw_on r d mask rest (draw_one r mask word so)))
          → Sound r d (elim more as (λ _. Drawn) [ true ↦ draw_on r d mask rest (draw_one r mask word so) | false ↦ so ])
      go true more later = later (one_sound word so (ltb-true (length so.positions) d more) sound)
      go false full later = sound

  one_used : (word : ℕ) (so : Drawn) → (draw_one r mask word so).used ≡ suc so.used
  unfolding draw_one
  one_used word so = go (taken r (bit_and word mask) so.positions)
    where
      go : (t : Bool)
          → (elim t as (λ _. Drawn) [
            | true ↦ record { positions = so.positions ++ (bit_and word mask ∷ []); used = suc so.used; passed = so.passed }
            | false ↦ record { positions = so.positions; used = suc so.used; passed = suc so.passed }
          ]).used
          ≡ suc so.used
      go true = refl
      go false = refl

  drawn_used : (words : List ℕ) (so : Drawn) → (draw_on r d mask words so).used ≤ so.used + length words
  unfolding draw_on
  drawn_used [] so = omega arith
  drawn_used (word ∷ rest) so = go (ltb (length so.positions) d) (drawn_used rest (draw_one r mask word so))
    where
      go : (more : Bool) → (draw_on r d mask rest (draw_one r mask word so)).used ≤ (draw_one r mask word so).used + length rest
          → (elim more as (λ _. Drawn) [ true ↦ draw_on r d mask rest (draw_one r mask word so) | false ↦ so ]).used ≤ so.used + suc (length rest)
      go true later = omega (arith, one_used word so, later)
      go false later = omega arith

  draw_used : (words : List ℕ) → (draw r d mask words).used ≤ length words
  unfolding draw
  draw_used words = omega (arith, drawn_used words (record { positions = []; used = 0; passed = 0 }))

  draw_sound : (words : List ℕ) → Sound r d (draw r d mask words)
  unfolding draw listed
  draw_sound words =
      drawn_sound words (record { positions = []; used = 0; passed = 0 })
      (record { within = λ p e. absurd (false≢true e); apart = tt; few = zero-le; counted = refl })

-- with a level's numbers
pub fair_sound : (l : Level) (words : List ℕ) → Sound l.r l.d (drawn_for l words)
unfolding drawn_for
fair_sound l words = draw_sound l.r l.d (mask_of l.r) words

pub fair_used : (l : Level) (words : List ℕ) → (drawn_for l words).used ≤ length words
unfolding drawn_for
fair_used l words = draw_used l.r l.d (mask_of l.r) words
