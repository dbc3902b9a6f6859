-- Positions in rising order: the lowest digit of a word first, and word after word. Assumes nothing.
use mathlib.Core.Path.{◌≡◌, refl, sym, ap, ap₂, ◌∙◌}
use mathlib.Core.Bool.{Bool, true, false}
use mathlib.Core.List.{List, [], ◌∷◌, ◌++◌, map, map-append, append-nil, append_assoc}
use Prim.Native.Nat.{ℕ, zero, suc, ◌+◌, ◌-◌, ◌*◌, ◌/◌, ◌%◌, ◌^◌, ◌≤◌, ◌<◌}
use native.Mathlib.Nat.{not-suc-le-zero, le_refl, one-mul, add-zero, add-suc, pos_of_ne-zero}
use native.Mathlib.Decide.{dec_lt, ℕ_discrete}
use native.Mathlib.Numerals.{add-one}
use native.Mathlib.Omega.{arith}
use lib.Count.{count_trailing_zeros, under, trailing_of_zero}
use lib.ListN.{length, get_or, set, take, length-append, length-map}
use lib.Dec.{lit<}
use lib.Pow.{pow-add, mod-pow-add, split, shr_lt, shl_exact}
use lib.Seq.{get_or-set_same, get_or-set_other, length-take-le, take-append_seam, take-length, take-set-le, take-suc-set}
use Rattle.hashing.specs.Lists.{bit_at, bits}
use Rattle.hashing.proofs.Words.{bit-mod, bit_shl, bit_shl_below, bit_shr, bit_zero, bits_at}
use Rattle.ring.specs.Polynomials.{Poly, InRing, rising}

-- the lowest digit of n that is set
lowest : (k n : ℕ) → 0 < n → n < 2 ^ k → (count_trailing_zeros k n < k) × (n % 2 ^ (count_trailing_zeros k n + 1) ≡ 2 ^ count_trailing_zeros k n)
unfolding count_trailing_zeros
lowest zero n some small = omega arith
lowest (suc k) n some small = go (n % 2) refl (lowest k (n / 2))
  where
    more : ℕ
    more = count_trailing_zeros k (n / 2)

    go : (d : ℕ) → n % 2 ≡ d → (0 < n / 2 → n / 2 < 2 ^ k → (more < k) × (n / 2 % 2 ^ (more + 1) ≡ 2 ^ more))
        → (under d more < suc k) × (n % 2 ^ (under d more + 1) ≡ 2 ^ under d more)
    go zero e before =
        let halves = before (omega arith) (shr_lt k 1 (rw (add-one k) small)) in
        let next : n % 2 ^ (more + 1 + 1) ≡ n / 2 % 2 ^ (more + 1) * 2 + n % 2 = mod-pow-add n (more + 1) 1 in
        (omega arith, rw (← add-one more, next, halves.1, e, pow-add 2 more 1) (omega arith))
    go (suc d) e before = (omega arith, omega arith)

-- without it
module _ (n t : ℕ) (low : n % 2 ^ (t + 1) ≡ 2 ^ t) where
  lowest_le : 2 ^ t ≤ n
  lowest_le = let whole : n / 2 ^ (t + 1) * 2 ^ (t + 1) + n % 2 ^ (t + 1) ≡ n = split n (t + 1) in omega arith

  rest_is : n - 2 ^ t ≡ n / 2 ^ (t + 1) * 2 ^ (t + 1)
  rest_is = let whole : n / 2 ^ (t + 1) * 2 ^ (t + 1) + n % 2 ^ (t + 1) ≡ n = split n (t + 1) in omega arith

  below_bit : (j : ℕ) → j < t + 1 → bit_at n j ≡ bit_at (1 * 2 ^ t) j
  below_bit j h = sym (bit-mod n (t + 1) j h) ∙ ap (λ (x : ℕ). bit_at x j) (low ∙ sym (one-mul (2 ^ t)))

  lowest_set : bit_at n t ≡ true
  unfolding bit_at
  lowest_set = below_bit t (omega arith) ∙ ap (bit_at (1 * 2 ^ t)) (omega arith) ∙ bit_shl 1 t 0

  lowest_none : (j : ℕ) → j < t → bit_at n j ≡ false
  lowest_none j h = below_bit j (omega arith) ∙ bit_shl_below 1 t j h

  rest_clear : bit_at (n - 2 ^ t) t ≡ false
  rest_clear = ap (λ (x : ℕ). bit_at x t) rest_is ∙ bit_shl_below (n / 2 ^ (t + 1)) (t + 1) t (omega arith)

  rest_other : (j : ℕ) → (j ≡ t → ⊥) → bit_at (n - 2 ^ t) j ≡ bit_at n j
  rest_other j other = ap (λ (x : ℕ). bit_at x j) rest_is ∙ go (dec_lt j t)
    where
      go : Dec (j < t) → bit_at (n / 2 ^ (t + 1) * 2 ^ (t + 1)) j ≡ bit_at n j
      go (yes h) = bit_shl_below (n / 2 ^ (t + 1)) (t + 1) j (omega arith) ∙ sym (lowest_none j h)
      go (no h) =
          let place : j ≡ j - (t + 1) + (t + 1) = omega arith in
          rw place (bit_shl (n / 2 ^ (t + 1)) (t + 1) (j - (t + 1)) ∙ bit_shr n (t + 1) (j - (t + 1)))

-- the list of exponents
rising_ext : (n : ℕ) {f g : Poly} → ((j : ℕ) → j < n → f j ≡ g j) → rising n f ≡ rising n g
unfolding rising
rising_ext zero same = refl
rising_ext (suc n) same = rw (rising_ext n (λ j h. same j (omega arith)), same n (le_refl (suc n)))

rising_none : (n : ℕ) {f : Poly} → ((j : ℕ) → j < n → f j ≡ false) → rising n f ≡ []
unfolding rising
rising_none zero none = refl
rising_none (suc n) none = rw (rising_none n (λ j h. none j (omega arith)), none n (le_refl (suc n)))

-- the first of them is t; the others are those of g
rising_first : (t : ℕ) {f g : Poly} → f t ≡ true → ((j : ℕ) → j < t → f j ≡ false) → g t ≡ false
    → ((j : ℕ) → (j ≡ t → ⊥) → g j ≡ f j) → (n : ℕ) → t < n → rising n f ≡ t ∷ rising n g
unfolding rising
rising_first t set none clear other zero h = absurd (not-suc-le-zero h)
rising_first t {f} {g} set none clear other (suc n) h = go (ℕ_discrete n t) (rising_first t set none clear other n)
  where
    go : Dec (n ≡ t) → (t < n → rising n f ≡ t ∷ rising n g)
        → rising n f ++ (elim (f n) [ true ↦ n ∷ [] | false ↦ [] ]) ≡ t ∷ (rising n g ++ (elim (g n) [ true ↦ n ∷ [] | false ↦ [] ]))
    go (yes here) before =
        rw (here, set, clear, rising_none t none, rising_none t (λ j low. other j (λ e. omega arith) ∙ none j low))
        (ap (λ (j : ℕ). j ∷ []) here)
    go (no later) before = rw (before (omega arith), other n later)

-- the exponents from m on
rising-add : (m n : ℕ) (a : Poly) → rising (m + n) a ≡ rising m a ++ map (λ (e : ℕ). m + e) (rising n (λ e. a (m + e)))
unfolding rising
rising-add m zero a = rw (add-zero m) (sym (append-nil (rising m a)))
rising-add m (suc n) a = rw (add-suc m n, rising-add m n a) (go (a (m + n)))
  where
    later : List ℕ
    later = rising n (λ e. a (m + e))

    go : (b : Bool) → rising m a ++ map (λ (e : ℕ). m + e) later ++ (elim b [ true ↦ (m + n) ∷ [] | false ↦ [] ])
        ≡ rising m a ++ map (λ (e : ℕ). m + e) (later ++ (elim b [ true ↦ n ∷ [] | false ↦ [] ]))
    go true =
        append_assoc (rising m a) (map (λ (e : ℕ). m + e) later) ((m + n) ∷ [])
        ∙ ap (λ (l : List ℕ). rising m a ++ l) (sym (map-append (λ (e : ℕ). m + e) later (n ∷ [])))
    go false = append-nil (rising m a ++ map (λ (e : ℕ). m + e) later) ∙ rw (append-nil later)

-- there are none past r
rising_in : (r : ℕ) {a : Poly} → InRing r a → (n : ℕ) → rising (r + n) a ≡ rising r a
rising_in r {a} inside n =
    rising-add r n a ∙ ap (λ (l : List ℕ). rising r a ++ map (λ (e : ℕ). r + e) l) (rising_none n (λ j h. inside (r + j) (omega arith)))
    ∙ append-nil (rising r a)

rising_mono : (m n : ℕ) (a : Poly) → m ≤ n → length (rising m a) ≤ length (rising n a)
rising_mono m n a h =
    let whole : m + (n - m) ≡ n = omega arith in
    let longer = ap length (rising-add m (n - m) a) ∙ length-append (rising m a) (map (λ (e : ℕ). m + e) (rising (n - m) (λ e. a (m + e)))) in
    let same = ap (λ (k : ℕ). length (rising k a)) whole in
    omega arith

-- the digits of a word: none, or the lowest and the others
no_digit : rising 64 (bit_at 0) ≡ []
no_digit = rising_none 64 (λ j h. bit_zero j)

next_digit : (n : ℕ) → 0 < n → n < 2 ^ 64
    → rising 64 (bit_at n) ≡ count_trailing_zeros 64 n ∷ rising 64 (bit_at (n - 2 ^ count_trailing_zeros 64 n))
next_digit n some small =
    let t : ℕ = count_trailing_zeros 64 n in
    let low = lowest 64 n some small in
    rising_first t (lowest_set n t low.1) (lowest_none n t low.1) (rest_clear n t low.1) (rest_other n t low.1) 64 low.0

-- taking the lowest off by a shift of 1, or of 0 where there is none
pub bit_off : (n t : ℕ) → n < 2 ^ 64 → t ≡ count_trailing_zeros 64 n
    → ((1 - t / 64) * 2 ^ (t % 64) % 2 ^ 64 ≤ n) × (n ≡ 0 → n - (1 - t / 64) * 2 ^ (t % 64) % 2 ^ 64 ≡ 0)
    × (0 < n → n - (1 - t / 64) * 2 ^ (t % 64) % 2 ^ 64 ≡ n - 2 ^ t)
bit_off n t small is = go (ℕ_discrete n 0)
  where
    shift : ℕ
    shift = (1 - t / 64) * 2 ^ (t % 64) % 2 ^ 64

    go : Dec (n ≡ 0) → (shift ≤ n) × (n ≡ 0 → n - shift ≡ 0) × (0 < n → n - shift ≡ n - 2 ^ t)
    go (yes none) =
        let all : t ≡ 64 = is ∙ rw (none, trailing_of_zero 64) in
        let no_shift : shift ≡ 0 = rw all in
        (omega arith, λ e. omega arith, λ some. absurd (not-suc-le-zero (rw none at some)))
    go (no bit) =
        let some : 0 < n = pos_of_ne-zero bit in
        let low = rw (← is) at (lowest 64 n some small) in
        let word : t / 64 ≡ 0 = omega arith in
        let place : t % 64 ≡ t = omega arith in
        let shifted : shift ≡ 2 ^ t = rw (word, place) (shl_exact 1 t 64 (lit< tt) (omega arith) ∙ one-mul (2 ^ t)) in
        let within = lowest_le n t low.1 in
        (omega arith, λ e. omega arith, λ e. ap (λ (x : ℕ). n - x) shifted)

-- the exponents of a list of words, word after word
rising-words : (xs : List ℕ) (i : ℕ)
    → rising (64 * (i + 1)) (bits 64 xs) ≡ rising (64 * i) (bits 64 xs) ++ map (λ (e : ℕ). 64 * i + e) (rising 64 (bit_at (get_or xs i 0)))
rising-words xs i =
    let next : 64 * (i + 1) ≡ 64 * i + 64 = omega arith in
    ap (λ (n : ℕ). rising n (bits 64 xs)) next ∙ rising-add (64 * i) 64 (bits 64 xs)
    ∙ ap (λ (l : List ℕ). rising (64 * i) (bits 64 xs) ++ map (λ (e : ℕ). 64 * i + e) l)
    (rising_ext 64 (λ e below. bits_at 64 xs i e refl below))

rising_all : (r : ℕ) (xs : List ℕ) → InRing r (bits 64 xs) → rising (64 * (r / 64 + 1)) (bits 64 xs) ≡ rising r (bits 64 xs)
rising_all r xs inside =
    let past : r + (64 * (r / 64 + 1) - r) ≡ 64 * (r / 64 + 1) = omega arith in
    ap (λ (n : ℕ). rising n (bits 64 xs)) (sym past) ∙ rising_in r inside (64 * (r / 64 + 1) - r)

-- A listing under way: the first n are written, what is left of word i is to come, and the words after it are whole.
pub record Listing (xs out left : List ℕ) (i n : ℕ) : Type 0 where
  pub listed : take n out ++ map (λ (e : ℕ). 64 * i + e) (rising 64 (bit_at (get_or left i 0))) ≡ rising (64 * (i + 1)) (bits 64 xs)
  pub small : get_or left i 0 < 2 ^ 64
  pub later : (j : ℕ) → i < j → get_or left j 0 ≡ get_or xs j 0

module _ (xs : List ℕ) (fits : (j : ℕ) → get_or xs j 0 < 2 ^ 64) where
  pub listing_start : (out : List ℕ) → Listing xs out xs 0 0
  unfolding rising
  listing_start out = record { listed = sym (rising-words xs 0); small = fits 0; later = λ j h. refl }

  module _ {out left : List ℕ} {i n : ℕ} (so_far : Listing xs out left i n) where
    -- a turn that finds no bit goes on to the next word, whatever it writes
    turn-none : (v : ℕ) → get_or left i 0 ≡ 0 → Listing xs (set out n v) (set left i 0) (i + 1) n
    turn-none v none =
        let after : (j : ℕ) → i < j → get_or (set left i 0) j 0 ≡ get_or xs j 0 = λ j h. get_or-set_other left i j 0 0 (λ e. omega arith) ∙ so_far.later j h in
        let written : take n out ≡ rising (64 * (i + 1)) (bits 64 xs) = sym (append-nil (take n out)) ∙ rw (none, no_digit) at so_far.listed in
        record {
          listed = rw (take-set-le n out n v (le_refl n), after (i + 1) (omega arith), written) (sym (rising-words xs (i + 1)));
          small = rw (after (i + 1) (omega arith)) (fits (i + 1));
          later = λ j h. after j (omega arith);
        }

    -- one that finds a bit lists it
    turn-bit : (t : ℕ) → t ≡ count_trailing_zeros 64 (get_or left i 0) → 0 < get_or left i 0 → n < length out → i < length left
        → Listing xs (set out n (64 * i + t)) (set left i (get_or left i 0 - 2 ^ t)) i (n + 1)
    turn-bit t is some room held =
        let rest : ℕ = get_or left i 0 - 2 ^ t in
        let digits = next_digit (get_or left i 0) some so_far.small in
        let more = append_assoc (take n out) ((64 * i + t) ∷ []) (map (λ (e : ℕ). 64 * i + e) (rising 64 (bit_at rest))) in
        let same : get_or (set left i rest) i 0 ≡ rest = get_or-set_same left i rest 0 held in
        record {
          listed = rw (add-one n, take-suc-set out n (64 * i + t) room, same) (more ∙ (rw (digits, ← is) at so_far.listed));
          small = rw same (let word = so_far.small in omega arith);
          later = λ j h. get_or-set_other left i j rest 0 (λ e. omega arith) ∙ so_far.later j h;
        }

    pub listing_turn : (t rest : ℕ) → t ≡ count_trailing_zeros 64 (get_or left i 0)
        → (get_or left i 0 ≡ 0 → rest ≡ 0) → (0 < get_or left i 0 → rest ≡ get_or left i 0 - 2 ^ t)
        → n < length out → i < length left → Listing xs (set out n (64 * i + t)) (set left i rest) (i + t / 64) (n + (1 - t / 64))
    listing_turn t rest is none some room held = go (ℕ_discrete (get_or left i 0) 0)
      where
        go : Dec (get_or left i 0 ≡ 0) → Listing xs (set out n (64 * i + t)) (set left i rest) (i + t / 64) (n + (1 - t / 64))
        go (yes empty) =
            let all : t ≡ 64 = is ∙ rw (empty, trailing_of_zero 64) in
            let word : t / 64 ≡ 1 = omega arith in
            let last : n + (1 - 1) ≡ n = omega arith in
            rw (word, last, none empty) (turn-none (64 * i + t) empty)
        go (no bit) =
            let set-bit : 0 < get_or left i 0 = pos_of_ne-zero bit in
            let word : t / 64 ≡ 0 = let low = lowest 64 (get_or left i 0) set-bit so_far.small in omega arith in
            rw (word, add-zero i, some set-bit) (turn-bit t is set-bit room held)

    -- how many are listed, and how many are left of word i
    module _ (r : ℕ) (inside : InRing r (bits 64 xs)) (room : n ≤ length out) where
      listed-length : n + length (rising 64 (bit_at (get_or left i 0))) ≡ length (rising (64 * (i + 1)) (bits 64 xs))
      listed-length =
          let parts = length-append (take n out) (map (λ (e : ℕ). 64 * i + e) (rising 64 (bit_at (get_or left i 0)))) in
          let mapped = length-map (rising 64 (bit_at (get_or left i 0))) (λ (e : ℕ). 64 * i + e) in
          omega (arith, parts, mapped, ap length so_far.listed, length-take-le n out room)

      listed_few : i ≤ r / 64 → n + length (rising 64 (bit_at (get_or left i 0))) ≤ length (rising r (bits 64 xs))
      listed_few low =
          omega (arith, listed-length, rising_mono (64 * (i + 1)) (64 * (r / 64 + 1)) (bits 64 xs) (omega arith), ap length (rising_all r xs inside))

      whole : i ≡ r / 64 → rising (64 * (i + 1)) (bits 64 xs) ≡ rising r (bits 64 xs)
      whole last = rw last (rising_all r xs inside)

      -- before the last turn there is a bit to list, or a word to go on to
      pub turn_fits : (t : ℕ) → t ≡ count_trailing_zeros 64 (get_or left i 0) → i ≤ r / 64 → i + n < r / 64 + length (rising r (bits 64 xs))
          → (t ≤ 64) × (i + t / 64 ≤ r / 64) × (n + (1 - t / 64) ≤ length (rising r (bits 64 xs)))
      turn_fits t is low more = go (ℕ_discrete (get_or left i 0) 0) (ℕ_discrete i (r / 64))
        where
          go : Dec (get_or left i 0 ≡ 0) → Dec (i ≡ r / 64) → (t ≤ 64) × (i + t / 64 ≤ r / 64) × (n + (1 - t / 64) ≤ length (rising r (bits 64 xs)))
          go (yes empty) (yes last) =
              let none : length (rising 64 (bit_at (get_or left i 0))) ≡ 0 = rw (empty, no_digit) in
              omega (arith, listed-length, ap length (whole last))
          go (yes empty) (no before) =
              let all : t ≡ 64 = is ∙ rw (empty, trailing_of_zero 64) in
              omega (arith, listed_few low)
          go (no bit) here =
              let some : 0 < get_or left i 0 = pos_of_ne-zero bit in
              let digit = lowest 64 (get_or left i 0) some so_far.small in
              omega (arith, listed_few low, ap length (next_digit (get_or left i 0) some so_far.small))

      pub listing_end : n ≡ length (rising r (bits 64 xs)) → i ≡ r / 64 → take n out ≡ rising r (bits 64 xs)
      listing_end all last =
          let left_over : List ℕ = map (λ (e : ℕ). 64 * i + e) (rising 64 (bit_at (get_or left i 0))) in
          sym (take-append_seam (take n out) left_over) ∙ ap₂ take (length-take-le n out room ∙ all) (so_far.listed ∙ whole last)
          ∙ take-length (rising r (bits 64 xs))
