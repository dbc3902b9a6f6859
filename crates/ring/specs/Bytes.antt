-- A polynomial as a list of bytes or of words, and numbers in bytes. Assumes nothing.
use Rattle.std.specs.Prelude.{Bool, List, [], ◌∷◌, ℕ, zero, suc, ◌+◌, ◌*◌, ◌/◌, ◌%◌, ◌^◌, ltb, get_or, take, drop}
use Rattle.hashing.specs.Lists.{tab}
use Rattle.ring.specs.Polynomials.{Poly, bit}

-- the number whose binary digits are f 0 (the lowest), .., f (w - 1)
unfoldable pub number : ℕ → (ℕ → Bool) → ℕ
number zero f = 0
number (suc w) f = number w f + bit (f w) * 2 ^ w

-- "coefficient i is bit i mod 8 (bit 0 lowest) of byte i div 8", over the width w: the n numbers whose bits `bits w` reads
unfoldable pub list_of : ℕ → ℕ → Poly → List ℕ
list_of w n a = tab n (λ i. number w (λ j. a (i * w + j)))

-- the bytes of a polynomial
abbrev pub byte_length : ℕ → ℕ
byte_length r = (r + 7) / 8

unfoldable pub bytes_of : ℕ → Poly → List ℕ
bytes_of r a = list_of 8 (byte_length r) a

-- "a pad bit set": the last byte has a bit from r mod 8 on. (Where 8 divides r there is no byte r div 8, and no pad.)
unfoldable pub pad_set : ℕ → List ℕ → Bool
pad_set r xs = ltb 0 (get_or xs (r / 8) 0 / 2 ^ (r % 8))

-- a number of bytes, the lowest first
unfoldable pub little_endian : List ℕ → ℕ
little_endian [] = 0
little_endian (byte ∷ rest) = byte + 256 * little_endian rest

-- "Words are little-endian, s_0 first in the stream": the first n numbers of `size` bytes each
unfoldable pub numbers : ℕ → ℕ → List ℕ → List ℕ
numbers size n bytes = tab n (λ i. little_endian (take size (drop (size * i) bytes)))
