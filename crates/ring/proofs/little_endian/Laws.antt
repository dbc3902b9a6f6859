-- A number is read byte by byte, and n bytes make a number below 256^n. Assumes nothing.
use mathlib.Core.Path.{◌≡◌, refl, ◌∙◌}
use mathlib.Core.List.{List, [], ◌∷◌}
use Prim.Native.Nat.{ℕ, zero, suc, ◌+◌, ◌*◌, ◌^◌, ◌<◌}
use native.Mathlib.Nat.{pow-suc}
use native.Mathlib.Numerals.{add-one}
use native.Mathlib.Omega.{arith}
use lib.Dec.{lit<}
use lib.ListN.{length, get_or, take, drop}
use lib.Seq.{take-nil, drop-nil}
use Rattle.hashing.proofs.Lists.{length-tab, get_or-tab}
use Rattle.ring.proofs.Layouts.{Below}
use Rattle.ring.specs.Bytes.{little_endian, numbers}

pub byte_more : (n at : ℕ) (bytes : List ℕ)
    → little_endian (take (suc n) (drop at bytes)) ≡ get_or bytes at 0 + 256 * little_endian (take n (drop (at + 1) bytes))
unfolding little_endian
byte_more n at [] = rw (drop-nil at, drop-nil (at + 1), take-nil n)
byte_more n zero (b ∷ bytes) = refl
byte_more n (suc at) (b ∷ bytes) = byte_more n at bytes ∙ rw (add-one at, add-one (suc at))

pub bytes_below : (n at : ℕ) (bytes : List ℕ) → Below 8 bytes → little_endian (take n (drop at bytes)) < 256 ^ n
unfolding little_endian
bytes_below zero at bytes small = lit< tt
bytes_below (suc n) at bytes small =
    let first = small at in
    let rest = bytes_below n (at + 1) bytes small in
    rw (byte_more n at bytes, pow-suc 256 n) (omega arith)

pub numbers-length : (size n : ℕ) (bytes : List ℕ) → length (numbers size n bytes) ≡ n
unfolding numbers
numbers-length size n bytes = length-tab n (λ i. little_endian (take size (drop (size * i) bytes)))

pub numbers_at : (size n : ℕ) (bytes : List ℕ) (i : ℕ) → i < n
    → get_or (numbers size n bytes) i 0 ≡ little_endian (take size (drop (size * i) bytes))
unfolding numbers
numbers_at size n bytes = get_or-tab n (λ i. little_endian (take size (drop (size * i) bytes))) 0
