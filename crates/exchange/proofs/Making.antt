-- What key making makes: a private key whose halves read back as h0 and h1, and a public key that matches them. Assumes nothing.
use mathlib.Core.Path.{◌≡◌, refl, sym, ap, ◌∙◌, subst, fun_ext}
use mathlib.Core.Bool.{Bool, true, false, ◌&&◌, ◌||◌, or-false, and-true, and-false}
use mathlib.Core.List.{List, [], ◌∷◌, ◌++◌, append_assoc, append-nil}
use Prim.Native.Nat.{ℕ, zero, suc, ◌+◌, ◌*◌, ◌/◌, ◌%◌, ◌≤◌, ◌<◌, zero-le}
use native.Mathlib.Nat.{not-suc-le-zero, mod-add-div, add-zero, le_of_suc-le-suc}
use native.Mathlib.Decide.{dec_lt, ℕ_discrete}
use native.Mathlib.Omega.{arith}
use borrow.Author.Tests.{lt-ltb, le-ltb, le-leb, ltb-true, eq-eqb, ne_eqb}
use lib.Dec.{leb, ltb, eqb}
use lib.ListN.{length, get_or, take, drop, length-append, length-drop, take-append-drop}
use lib.Seq.{drop_at, drop-drop, ext_get_or, take-suc}
use Rattle.hashing.specs.Lists.{tab}
use Rattle.hashing.proofs.Lists.{length-tab, get_or-tab}
use Rattle.ring.specs.Polynomials.{Poly, InRing, rising, weight, listed, support}
use Rattle.ring.proofs.Bools.{both_true}
use Rattle.ring.proofs.Layouts.{Below}
use Rattle.ring.proofs.Weights.{length-rising}
use Rattle.ring.proofs.little_endian.Laws.{byte_more}
use Rattle.ring.proofs.times.Laws.{bounded}
use Rattle.ring.specs.Bytes.{little_endian, numbers}
use Rattle.ring.specs.Levels.{Level}
use Rattle.exchange.specs.decoder.PrivateKey.{positions0, positions1, tail, secret, rising_from, good_key}
use Rattle.exchange.specs.Scheme.{two_bytes, private_key_of}
use Rattle.exchange.proofs.Streams.{below_drop}
use Rattle.exchange.proofs.decoder.Listing.{rising_in, rising_unique}

-- two bytes read back
two_back : (p : ℕ) (rest : List ℕ) → little_endian (take 2 (p % 256 ∷ p / 256 ∷ rest)) ≡ p
unfolding little_endian
two_back p rest = rw (add-zero (p / 256)) (mod-add-div p 256)

number_back : (ps rest : List ℕ) (i : ℕ) → i < length ps → little_endian (take 2 (drop (2 * i) (two_bytes ps ++ rest))) ≡ get_or ps i 0
unfolding two_bytes
number_back [] rest i h = absurd (not-suc-le-zero h)
number_back (p ∷ ps) rest zero h = two_back p (two_bytes ps ++ rest)
number_back (p ∷ ps) rest (suc i) h =
    let at : 2 * suc i ≡ suc (suc (2 * i)) = omega arith in rw at (number_back ps rest i (le_of_suc-le-suc h))

pub numbers_back : (ps rest : List ℕ) → numbers 2 (length ps) (two_bytes ps ++ rest) ≡ ps
unfolding numbers
numbers_back ps rest =
    ext_get_or 0 (tab (length ps) (λ i. little_endian (take 2 (drop (2 * i) (two_bytes ps ++ rest))))) ps (length-tab (length ps) _)
    (λ i h.
    let below : i < length ps = rw length-tab at h in
    get_or-tab (length ps) (λ i. little_endian (take 2 (drop (2 * i) (two_bytes ps ++ rest)))) 0 i below ∙ number_back ps rest i below)

pub length-two_bytes : (ps : List ℕ) → length (two_bytes ps) ≡ 2 * length ps
unfolding two_bytes
length-two_bytes [] = refl
length-two_bytes (p ∷ ps) = omega (arith, length-two_bytes ps)

pub two_bytes-append : (xs ys : List ℕ) → two_bytes (xs ++ ys) ≡ two_bytes xs ++ two_bytes ys
unfolding two_bytes
two_bytes-append [] ys = refl
two_bytes-append (x ∷ xs) ys = ap (λ (rest : List ℕ). x % 256 ∷ x / 256 ∷ rest) (two_bytes-append xs ys)

-- two bytes that are read and written again are the same bytes
pub two_at : (at : ℕ) (bytes : List ℕ) → little_endian (take 2 (drop at bytes)) ≡ get_or bytes at 0 + 256 * get_or bytes (at + 1) 0
unfolding little_endian
two_at at bytes = omega (arith, byte_more 1 at bytes, byte_more 0 (at + 1) bytes)

pub two_again : (n : ℕ) (bytes : List ℕ) → Below 8 bytes → 2 * n ≤ length bytes → two_bytes (numbers 2 n bytes) ≡ take (2 * n) bytes
unfolding numbers tab two_bytes
two_again zero bytes small room = refl
two_again (suc n) bytes small room =
    let x = little_endian (take 2 (drop (2 * n) bytes)) in
    let next : 2 * suc n ≡ suc (suc (2 * n)) = omega arith in
    let at : suc (2 * n) ≡ 2 * n + 1 = omega arith in
    let low : x % 256 ≡ get_or bytes (2 * n) 0 = omega (arith, two_at (2 * n) bytes, small (2 * n)) in
    let high : x / 256 ≡ get_or bytes (suc (2 * n)) 0 = rw at (omega (arith, two_at (2 * n) bytes, small (2 * n))) in
    two_bytes-append (numbers 2 n bytes) (x ∷ [])
    ∙ rw (two_again n bytes small (omega arith), low, high, next, take-suc bytes (suc (2 * n)) 0 (omega arith), take-suc bytes (2 * n) 0 (omega arith))
    (sym (append_assoc (take (2 * n) bytes) (get_or bytes (2 * n) 0 ∷ []) (get_or bytes (suc (2 * n)) 0 ∷ [])))

-- the exponents in rising order are the polynomial's
listed-append : (k : ℕ) (xs ys : List ℕ) → listed k (xs ++ ys) ≡ listed k xs || listed k ys
unfolding listed
listed-append k [] ys = refl
listed-append k (x ∷ xs) ys = go (eqb k x) (listed-append k xs ys)
  where
    go : (b : Bool) → listed k (xs ++ ys) ≡ listed k xs || listed k ys → b || listed k (xs ++ ys) ≡ (b || listed k xs) || listed k ys
    go true e = refl
    go false e = e

last_listed : (k n : ℕ) (b : Bool) → listed k (elim b as (λ _. List ℕ) [ true ↦ n ∷ [] | false ↦ [] ]) ≡ eqb k n && b
unfolding listed
last_listed k n true = or-false (eqb k n) ∙ sym (and-true (eqb k n))
last_listed k n false = sym (and-false (eqb k n))

pub listed-rising : (n : ℕ) (a : Poly) (k : ℕ) → listed k (rising n a) ≡ ltb k n && a k
unfolding rising listed
listed-rising zero a k = rw (le-ltb k 0 zero-le)
listed-rising (suc n) a k =
    listed-append k (rising n a) _ ∙ rw (listed-rising n a k, last_listed k n (a n)) (go (dec_lt k n) (ℕ_discrete k n))
  where
    go : Dec (k < n) → Dec (k ≡ n) → ltb k n && a k || eqb k n && a n ≡ ltb k (suc n) && a k
    go (yes below) same =
        let less : k < suc n = omega arith in
        let other : k ≡ n → ⊥ = λ e. omega arith in
        rw (lt-ltb k n below, lt-ltb k (suc n) less, ne_eqb k n other) (or-false (a k))
    go (no past) (yes here) =
        let less : k < suc n = omega arith in
        let end : n ≤ k = omega arith in
        rw (le-ltb k n end, lt-ltb k (suc n) less, eq-eqb k n here) (ap a (sym here))
    go (no past) (no there) =
        let beyond : suc n ≤ k = omega arith in
        let end : n ≤ k = omega arith in
        rw (le-ltb k n end, le-ltb k (suc n) beyond, ne_eqb k n there)

-- a polynomial of the ring is given by its exponents
pub support-rising : (r : ℕ) {a : Poly} → InRing r a → support (rising r a) ≡ a
unfolding support
support-rising r {a} inside = fun_ext (listed-rising r a) ∙ bounded r inside

-- a private key that was written with d positions in each half reads back
module _ (l : Level) (a b : Poly) (last : List ℕ) (wa : weight l.r a ≡ l.d) (wb : weight l.r b ≡ l.d) where
  size0 : length (rising l.r a) ≡ l.d
  size0 = length-rising l.r a ∙ wa

  size1 : length (rising l.r b) ≡ l.d
  size1 = length-rising l.r b ∙ wb

  pub positions0_back : positions0 l (private_key_of l.r a b last) ≡ rising l.r a
  unfolding positions0 private_key_of
  positions0_back = rw (← size0) (numbers_back (rising l.r a) (two_bytes (rising l.r b) ++ last))

  pub positions1_back : positions1 l (private_key_of l.r a b last) ≡ rising l.r b
  unfolding positions1 private_key_of
  positions1_back =
      let after : drop (2 * l.d) (two_bytes (rising l.r a) ++ (two_bytes (rising l.r b) ++ last)) ≡ two_bytes (rising l.r b) ++ last =
      drop_at (two_bytes (rising l.r a)) (two_bytes (rising l.r b) ++ last) (2 * l.d) (length-two_bytes (rising l.r a) ∙ ap (◌*◌ 2) size0) in
      rw after (subst (λ n. numbers 2 n (two_bytes (rising l.r b) ++ last) ≡ rising l.r b) size1 (numbers_back (rising l.r b) last))

  pub tail_back : tail l (private_key_of l.r a b last) ≡ last
  unfolding tail private_key_of
  tail_back =
      let size : length (two_bytes (rising l.r a) ++ two_bytes (rising l.r b)) ≡ 2 * (l.d + l.d) =
      omega (arith, length-append (two_bytes (rising l.r a)) (two_bytes (rising l.r b)), length-two_bytes (rising l.r a), length-two_bytes (rising l.r b), size0, size1) in
      rw (← append_assoc (two_bytes (rising l.r a)) (two_bytes (rising l.r b)) last) (drop_at (two_bytes (rising l.r a) ++ two_bytes (rising l.r b)) last (2 * (l.d + l.d)) size)

  pub secret_back : InRing l.r a → InRing l.r b → secret l (private_key_of l.r a b last) ≡ record { half0 = a; half1 = b }
  unfolding secret
  secret_back ha hb = rw (positions0_back, positions1_back, support-rising l.r ha, support-rising l.r hb)

-- exponents in rising order are a good half of a private key
rising_wider : (n r least : ℕ) (xs : List ℕ) → n ≤ r → rising_from n least xs ≡ true → rising_from r least xs ≡ true
unfolding rising_from
rising_wider n r least [] le e = refl
rising_wider n r least (p ∷ xs) le e =
    let low = both_true (leb least p) _ e in
    let rest = both_true (ltb p n) _ low.1 in
    let below : p < n = ltb-true p n rest.0 in
    let within : p < r = omega arith in
    rw (low.0, lt-ltb p r within) (rising_wider n r (suc p) xs le rest.1)

rising_snoc : (n least : ℕ) (xs : List ℕ) → least ≤ n → rising_from n least xs ≡ true → rising_from (suc n) least (xs ++ (n ∷ [])) ≡ true
unfolding rising_from
rising_snoc n least [] le e = let next : n < suc n = omega arith in rw (le-leb least n le, lt-ltb n (suc n) next)
rising_snoc n least (p ∷ xs) le e =
    let low = both_true (leb least p) _ e in
    let rest = both_true (ltb p n) _ low.1 in
    let below : p < n = ltb-true p n rest.0 in
    let within : p < suc n = omega arith in
    rw (low.0, lt-ltb p (suc n) within) (rising_snoc n (suc p) xs below rest.1)

pub rising_good : (n : ℕ) (a : Poly) → rising_from n 0 (rising n a) ≡ true
unfolding rising rising_from
rising_good zero a = refl
rising_good (suc n) a = go (a n) (rising_good n a)
  where
    go : (b : Bool) → rising_from n 0 (rising n a) ≡ true → rising_from (suc n) 0 (rising n a ++ (elim b as (λ _. List ℕ) [ true ↦ n ∷ [] | false ↦ [] ])) ≡ true
    go true e = rising_snoc n 0 (rising n a) zero-le e
    go false e = let wider : n ≤ suc n = omega arith in rw (append-nil (rising n a)) (rising_wider n (suc n) 0 (rising n a) wider e)

-- positions that rise are the only ones of their polynomial that do, so they are the exponents in rising order
pub rising-support : (r : ℕ) → 0 < r → (ps : List ℕ) → rising_from r 0 ps ≡ true → rising r (support ps) ≡ ps
rising-support r pos ps good =
    rising_unique r 0 (rising r (support ps)) ps (rising_good r (support ps)) good (support-rising r (rising_in r pos 0 ps good))

-- so a good private key that is read and written again is the same bytes
pub key_again : (l : Level) → 0 < l.r → (key : List ℕ) → Below 8 key → 2 * (l.d + l.d) ≤ length key → good_key l key ≡ true
    → private_key_of l.r (secret l key).half0 (secret l key).half1 (tail l key) ≡ key
unfolding private_key_of secret good_key positions0 positions1 tail
key_again l pos key small room good =
    let rise = both_true (rising_from l.r 0 (positions0 l key)) _ good in
    let both : 2 * (l.d + l.d) ≡ 2 * l.d + 2 * l.d = omega arith in
    rw (
      rising-support l.r pos (positions0 l key) rise.0,
      rising-support l.r pos (positions1 l key) rise.1,
      two_again l.d key small (omega arith),
      two_again l.d (drop (2 * l.d) key) (below_drop 8 (2 * l.d) key small) (rw (length-drop (2 * l.d) key) (omega arith)),
      both,
      ← drop-drop (2 * l.d) (2 * l.d) key,
      take-append-drop (2 * l.d) (drop (2 * l.d) key),
    )
    (take-append-drop (2 * l.d) key)
