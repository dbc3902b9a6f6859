-- SP 800-185's encodings of lengths below 65,536, and slices that are absorbed one after another. Assumes nothing.
use mathlib.Core.Path.{◌≡◌, refl, ap, ◌∙◌}
use mathlib.Core.List.{List, [], ◌∷◌, ◌++◌, append-nil, append_assoc}
use Prim.Native.Nat.{ℕ, zero, suc, ◌+◌, ◌-◌, ◌/◌, ◌%◌, ◌^◌, ◌≤◌, ◌<◌}
use native.Mathlib.Nat.{mod-eq_of_lt, le_of_eq, add-zero, pow-suc}
use native.Mathlib.Decide.{dec_lt}
use native.Mathlib.Omega.{arith}
use lib.Dec.{lit<}
use lib.ListN.{length, take, drop, replicate, length-append, length-replicate, replicate-append-replicate}
use lib.Seq.{drop_at, take_all}
use borrow.Author.Tests.{lt-ltb, le-ltb}
use Rattle.hashing.specs.declared.sponge.Sponge.{Sponge}
use Rattle.hashing.specs.Kmac.{big_endian, size_from, size, left_encode, right_encode, whole_blocks, bytepad}
use Rattle.hashing.specs.inner.Running.{running, Absorbs}

-- ---- the size is the smallest that is enough

from_enough : (tries n x : ℕ) → x < 256 ^ (n + tries) → x < 256 ^ size_from tries n x
unfolding size_from
from_enough zero n x h = rw add-zero at h
from_enough (suc tries) n x h = go (dec_lt x (256 ^ n)) (from_enough tries (suc n) x)
  where
    go : Dec (x < 256 ^ n) → (x < 256 ^ (suc n + tries) → x < 256 ^ size_from tries (suc n) x)
        → x < 256 ^ size_from (suc tries) n x
    go (yes below) later = rw (lt-ltb x (256 ^ n) below, size_from) below
    go (no above) later =
        let further : n + suc tries ≡ suc n + tries = omega arith in
        rw (le-ltb x (256 ^ n) (omega arith), size_from) (later (rw further at h))

from_least : (tries n x m : ℕ) → n ≤ m → x < 256 ^ m → size_from tries n x ≤ m
unfolding size_from
from_least zero n x m h enough = h
from_least (suc tries) n x m h enough = go (dec_lt x (256 ^ n)) (dec_lt n m) (λ less. from_least tries (suc n) x m less enough)
  where
    go : Dec (x < 256 ^ n) → Dec (n < m) → (n < m → size_from tries (suc n) x ≤ m) → size_from (suc tries) n x ≤ m
    go (yes below) further later = rw (lt-ltb x (256 ^ n) below, size_from) h
    go (no above) (yes less) later = rw (le-ltb x (256 ^ n) (omega arith), size_from) (later less)
    go (no above) (no last) later = let same : m ≡ n = omega arith in absurd (above (rw same at enough))

grows : (x : ℕ) → x < 256 ^ (1 + x)
grows zero = lit< tt
grows (suc x) = let more : 1 + suc x ≡ suc (1 + x) = omega arith in rw (more, pow-suc) (omega (arith, grows x))

pub size-enough : (x : ℕ) → x < 256 ^ size x
unfolding size
size-enough x = from_enough x 1 x (grows x)

pub size_least : (x n : ℕ) → 0 < n → x < 256 ^ n → size x ≤ n
unfolding size
size_least x n positive enough = from_least x 1 x n positive enough

-- ---- numbers of one byte and of two

size-one : (x : ℕ) → x < 256 → size x ≡ 1
unfolding size size_from
size-one zero h = refl
size-one (suc x) h = rw (lt-ltb (suc x) 256 h, size_from)

size_two : (x : ℕ) → 256 ≤ x → x < 65536 → size x ≡ 2
unfolding size size_from
size_two zero big small = absurd (omega arith)
size_two (suc zero) big small = absurd (omega arith)
size_two (suc (suc x)) big small =
    rw (le-ltb (suc (suc x)) 256 big, size_from, lt-ltb (suc (suc x)) 65536 small, size_from)

module _ (x : ℕ) (small : x < 256) where
  pub left_one : left_encode x ≡ 1 ∷ x ∷ []
  unfolding left_encode big_endian
  left_one = rw (size-one x small, mod-eq_of_lt small)

  pub right_one : right_encode x ≡ x ∷ 1 ∷ []
  unfolding right_encode big_endian
  right_one = rw (size-one x small, mod-eq_of_lt small)

module _ (x : ℕ) (big : 256 ≤ x) (small : x < 65536) where
  high : x / 256 % 256 ≡ x / 256
  high = let below : x / 256 < 256 = omega arith in mod-eq_of_lt below

  pub left_two : left_encode x ≡ 2 ∷ x / 256 ∷ x % 256 ∷ []
  unfolding left_encode big_endian
  left_two = rw (size_two x big small, high)

  pub right_two : right_encode x ≡ x / 256 ∷ x % 256 ∷ 2 ∷ []
  unfolding right_encode big_endian
  right_two = rw (size_two x big small, high)

-- ---- slices one after another

pub none : {rate : ℕ} (a : Sponge) → a.place < rate → Absorbs rate a [] a
none a h = record { within = h; goes_on = λ M e. rw append-nil e }

pub both : {rate : ℕ} {X Y : List ℕ} {a b c : Sponge} → Absorbs rate a X b → Absorbs rate b Y c → Absorbs rate a (X ++ Y) c
both {X = X} {Y = Y} p q =
    record { within = q.within; goes_on = λ M e. rw (← append_assoc M X Y) (q.goes_on (M ++ X) (p.goes_on M e)) }

-- ---- whole blocks

pub rest_zeros : (k n : ℕ) → take {A = ℕ} n (drop k (replicate (k + n) 0)) ≡ replicate n 0
rest_zeros k n =
    let zeros : ℕ → List ℕ = λ m. replicate m 0 in
    rw (← replicate-append-replicate {A = ℕ} k n 0, drop_at (zeros k) (zeros n) k (length-replicate {A = ℕ} k 0))
    (take_all n (zeros n) (le_of_eq (length-replicate {A = ℕ} n 0)))

pub bytepad_whole : (X : List ℕ) → length (bytepad X 136) % 136 ≡ 0
unfolding bytepad whole_blocks
bytepad_whole X = simp (length-append, length-replicate) (omega arith)

-- after whole blocks the place is that of what came after them, so zeros to the end of the block are bytepad's
pub padded : (M Z : List ℕ) {a b c : Sponge} → length M % 136 ≡ 0 → a ≡ running 136 M → Absorbs 136 a Z b
    → Absorbs 136 b (replicate ((136 - b.place) % 136) 0) c → c ≡ running 136 (M ++ whole_blocks Z 136)
unfolding running whole_blocks
padded M Z {a} {b} {c} whole e p q =
    let runs = p.goes_on M e in
    let after : length (M ++ Z) % 136 ≡ length Z % 136 = simp length-append (omega arith) in
    let place : b.place ≡ length Z % 136 = ap (λ (s : Sponge). s.place) runs ∙ after in
    rw (place, append_assoc) at (q.goes_on (M ++ Z) runs)
