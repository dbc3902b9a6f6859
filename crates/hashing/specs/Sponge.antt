-- The sponge construction of FIPS 202 over bytes, with a rate in bytes. A state is 25 lanes of 64 bits. Assumes nothing.
use Rattle.std.specs.Prelude.{Bool, true, false, List, [], ◌∷◌, ◌++◌, ℕ, zero, suc, ◌+◌, ◌-◌, ◌*◌, ◌/◌, ◌%◌, ◌^◌, length, get_or, set, take, drop, replicate}
use Rattle.std.specs.Int.Bits.{bit_xor}
use Rattle.hashing.specs.Keccak.{keccak_f}
use Rattle.hashing.specs.Lists.{tab, bit_at}

-- B.1: byte k of the state's string is byte k mod 8, the lowest first, of lane k div 8
unfoldable pub byte_of : List ℕ → ℕ → ℕ
byte_of S k = get_or S (k / 8) 0 / 2 ^ (8 * (k % 8)) % 256

-- b added, by exclusive or, to byte k of the state's string
unfoldable pub add_byte : List ℕ → ℕ → ℕ → List ℕ
add_byte S k b = set S (k / 8) (bit_xor (get_or S (k / 8) 0) (b * 2 ^ (8 * (k % 8))))

-- the bytes of P added from byte k on: S ⊕ (P || 0^c) where k is 0
unfoldable pub add_bytes : List ℕ → ℕ → List ℕ → List ℕ
add_bytes S k [] = S
add_bytes S k (b ∷ P) = add_bytes (add_byte S k b) (suc k) P

-- B.1: the bits of a string of bytes, the lowest of each byte first
unfoldable pub bits_of : List ℕ → List Bool
bits_of [] = []
bits_of (b ∷ M) = tab 8 (bit_at b) ++ bits_of M

-- 5.1, algorithm 9: pad10*1(x, m) is 1 || 0^j || 1 with j = (- m - 2) mod x
unfoldable pub pad10*1 : ℕ → ℕ → List Bool
pad10*1 x m = true ∷ (replicate ((x - (m + 2) % x) % x) false ++ (true ∷ []))

-- The suffix and the padding as q bytes. The first has the bits of the suffix and the 1 that begins the padding; the 1 that ends
-- it is the highest bit of the last. That these are the suffix and pad10*1, bit for bit, is shown in proofs/Padding.
unfoldable pub padding : ℕ → ℕ → List ℕ
padding suffix zero = []
padding suffix (suc zero) = (suffix + 128) ∷ []
padding suffix (suc (suc q)) = suffix ∷ (replicate q 0 ++ (128 ∷ []))

-- 4, algorithm 8, step 1: P = N || pad(r, len(N)), which fills the last block
unfoldable pub padded : ℕ → ℕ → List ℕ → List ℕ
padded rate suffix M = M ++ padding suffix (rate - length M % rate)

-- step 4: P = P_0 || .. || P_(n-1), each of r bits
unfoldable pub block : ℕ → List ℕ → ℕ → List ℕ
block rate P i = take rate (drop (i * rate) P)

-- steps 5 and 6: S = 0^b; for each block S = f(S ⊕ (P_i || 0^c))
unfoldable pub absorbed : ℕ → List ℕ → ℕ → List ℕ
absorbed rate P zero = replicate 25 0
absorbed rate P (suc i) = keccak_f (add_bytes (absorbed rate P i) 0 (block rate P i))

-- all n = len(P) / r blocks (step 2)
unfoldable pub soaked : ℕ → ℕ → List ℕ → List ℕ
soaked rate suffix M = absorbed rate (padded rate suffix M) (length (padded rate suffix M) / rate)

-- step 10, i times: S = f(S)
unfoldable pub permuted : ℕ → List ℕ → List ℕ
permuted zero S = S
permuted (suc i) S = keccak_f (permuted i S)

-- steps 7 and 8: Z = Trunc_r(S) || Trunc_r(f(S)) || .., n blocks
unfoldable pub squeezed : ℕ → List ℕ → ℕ → List ℕ
squeezed rate S zero = []
squeezed rate S (suc i) = squeezed rate S i ++ tab rate (byte_of (permuted i S))

-- step 9: Trunc_d(Z), for as many blocks as n bytes take
unfoldable pub sponge : ℕ → ℕ → List ℕ → ℕ → List ℕ
sponge rate suffix M n = take n (squeezed rate (soaked rate suffix M) ((n + rate - 1) / rate))

-- 6.2: SHAKE256(M, d) = KECCAK[512](M || 1111, d)
unfoldable pub shake_suffix : List Bool
shake_suffix = true ∷ true ∷ true ∷ true ∷ []

unfoldable pub shake256 : List ℕ → ℕ → List ℕ
shake256 M n = sponge 136 0x1f M n

-- 6.1: SHA3-384(M) = KECCAK[768](M || 01, 384)
unfoldable pub sha3_suffix : List Bool
sha3_suffix = false ∷ true ∷ []

unfoldable pub sha3_384 : List ℕ → List ℕ
sha3_384 M = sponge 104 0x06 M 48
