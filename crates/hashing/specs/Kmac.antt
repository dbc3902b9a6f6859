-- KMAC256 of NIST SP 800-185, over bytes. Assumes nothing.
use Rattle.std.specs.Prelude.{Bool, true, false, List, [], ◌∷◌, ◌++◌, ℕ, zero, suc, ◌-◌, ◌*◌, ◌/◌, ◌%◌, ◌^◌, ltb, length, replicate}
use Rattle.hashing.specs.Sponge.{sponge}

-- x in n bytes, the highest first
unfoldable pub big_endian : ℕ → ℕ → List ℕ
big_endian zero x = []
big_endian (suc n) x = big_endian n (x / 256) ++ (x % 256 ∷ [])

-- the smallest n, looked for from `n` on, with x < 256^n; `tries` ends the search
unfoldable pub size_from : ℕ → ℕ → ℕ → ℕ
size_from zero n x = n
size_from (suc tries) n x = elim (ltb x (256 ^ n)) [ true ↦ n | false ↦ size_from tries (suc n) x ]

-- 2.3.1: "the smallest positive integer for which 2^(8n) > x", which is at most x + 1
unfoldable pub size : ℕ → ℕ
size x = size_from x 1 x

-- 2.3.1: the number of bytes stands before them, or after them
unfoldable pub left_encode : ℕ → List ℕ
left_encode x = size x ∷ big_endian (size x) x

unfoldable pub right_encode : ℕ → List ℕ
right_encode x = big_endian (size x) x ++ (size x ∷ [])

-- 2.3.2: the length is in bits
unfoldable pub encode_string : List ℕ → List ℕ
encode_string S = left_encode (8 * length S) ++ S

-- 2.3.3: zeros to a multiple of w bytes
unfoldable pub whole_blocks : List ℕ → ℕ → List ℕ
whole_blocks Z w = Z ++ replicate ((w - length Z % w) % w) 0

unfoldable pub bytepad : List ℕ → ℕ → List ℕ
bytepad X w = whole_blocks (left_encode w ++ X) w

-- 3.3: cSHAKE256(X, L, N, S) where N or S is not empty is KECCAK[512](bytepad(..) || X || 00, L); L is n in bits.
-- The byte 04 is 00 and the 1 that begins the padding (proofs/Padding).
unfoldable pub cshake_suffix : List Bool
cshake_suffix = false ∷ false ∷ []

unfoldable pub cshake256 : List ℕ → ℕ → List ℕ → List ℕ → List ℕ
cshake256 X n N S = sponge 136 0x04 (bytepad (encode_string N ++ encode_string S) 136 ++ X) n

-- 4.3: KMAC256(K, X, L, S), whose N is "KMAC"
unfoldable pub function_name : List ℕ
function_name = 0x4b ∷ 0x4d ∷ 0x41 ∷ 0x43 ∷ []

unfoldable pub kmac256 : List ℕ → List ℕ → ℕ → List ℕ → List ℕ
kmac256 K X n S = cshake256 (bytepad (encode_string K) 136 ++ (X ++ right_encode (8 * n))) n function_name S
