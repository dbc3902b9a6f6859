-- What the hash functions give are bytes, and the words of a stream have 32 bits. Assumes nothing.
use mathlib.Core.List.{List, [], ◌∷◌, ◌++◌}
use Prim.Native.Nat.{ℕ, zero, suc, ◌+◌, ◌*◌, ◌^◌, ◌<◌}
use native.Mathlib.Decide.{dec_lt}
use native.Mathlib.Omega.{arith}
use lib.Dec.{lit<}
use lib.ListN.{get_or, take, drop, get_or-eq_default}
use lib.Pow.{pow_pos}
use lib.Seq.{get_or-drop}
use Rattle.hashing.specs.Lists.{tab}
use Rattle.hashing.specs.Sponge.{shake256}
use Rattle.hashing.proofs.sponge.Squeezing.{sponge_bytes}
use Rattle.ring.proofs.Layouts.{Below}
use Rattle.ring.specs.Bytes.{numbers}
use Rattle.ring.proofs.little_endian.Laws.{bytes_below, numbers_at, numbers-length}

module _ (w : ℕ) where
  pub below_append : (xs ys : List ℕ) → Below w xs → Below w ys → Below w (xs ++ ys)
  below_append [] ys first second i = second i
  below_append (x ∷ xs) ys first second zero = first zero
  below_append (x ∷ xs) ys first second (suc i) = below_append xs ys (λ j. first (suc j)) second i

  pub below_take : (n : ℕ) (xs : List ℕ) → Below w xs → Below w (take n xs)
  below_take zero xs small i = pow_pos w
  below_take (suc n) [] small i = pow_pos w
  below_take (suc n) (x ∷ xs) small zero = small zero
  below_take (suc n) (x ∷ xs) small (suc i) = below_take n xs (λ j. small (suc j)) i

  pub below_drop : (n : ℕ) (xs : List ℕ) → Below w xs → Below w (drop n xs)
  below_drop n xs small i = rw (get_or-drop n xs i 0) (small (n + i))

  below_one : (x : ℕ) → x < 2 ^ w → Below w (x ∷ [])
  below_one x small zero = small
  below_one x small (suc i) = pow_pos w

  pub below_tab : (n : ℕ) (f : ℕ → ℕ) → ((k : ℕ) → f k < 2 ^ w) → Below w (tab n f)
  unfolding tab
  below_tab zero f small i = pow_pos w
  below_tab (suc n) f small i = below_append (tab n f) (f n ∷ []) (below_tab n f small) (below_one (f n) (small n)) i

pub shake256_below : (M : List ℕ) (n : ℕ) → Below 8 (shake256 M n)
unfolding shake256
shake256_below M n = sponge_bytes 136 (lit< tt) 0x1f M n

pub words_below : (n : ℕ) (bytes : List ℕ) → Below 8 bytes → (i : ℕ) → get_or (numbers 4 n bytes) i 0 < 2 ^ 32
words_below n bytes small i = go (dec_lt i n)
  where
    go : Dec (i < n) → get_or (numbers 4 n bytes) i 0 < 2 ^ 32
    go (yes within) = rw (numbers_at 4 n bytes i within) (bytes_below 4 (4 * i) bytes small)
    go (no past) = rw (get_or-eq_default (numbers 4 n bytes) 0 {n = i} (rw (numbers-length 4 n bytes) (omega arith))) (lit< tt)
