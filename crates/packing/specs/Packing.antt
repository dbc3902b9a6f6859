-- "A packed form ..: sigma first, then h0's positions and h1's, low bit first with no gaps, zero bits to the byte's
-- end." Assumes nothing.
use Rattle.std.specs.Prelude.{Bool, List, ◌++◌, ℕ, ◌+◌, ◌*◌, take, drop}
use Rattle.hashing.specs.Lists.{bits}
use Rattle.ring.specs.Bytes.{list_of, byte_length, bytes_of, pad_set}
use Rattle.ring.specs.Levels.{Level, tail_bytes, position_bits}
use Rattle.exchange.specs.decoder.PrivateKey.{positions0, positions1, tail}
use Rattle.exchange.specs.Scheme.{two_bytes}

-- a row of n numbers of w bits each: bit k of number i is bit i w + k of the row, and the row lies in bytes as a
-- polynomial does
unfoldable pub row_of : ℕ → ℕ → List ℕ → List ℕ
row_of w n numbers = bytes_of (n * w) (bits w numbers)

unfoldable pub in_row : ℕ → ℕ → List ℕ → List ℕ
in_row w n bytes = list_of w n (bits 8 bytes)

-- the row of a private key: the positions of both halves, each with the binary digits of r
abbrev pub positions_in : Level → ℕ
positions_in l = l.d + l.d

unfoldable pub positions : Level → List ℕ → List ℕ
positions l key = positions0 l key ++ positions1 l key

abbrev pub packed_bits : Level → ℕ
packed_bits l = positions_in l * position_bits l.r

abbrev pub packed_bytes : Level → ℕ
packed_bytes l = tail_bytes + byte_length (packed_bits l)

-- the tail of the key, sigma, then the row
unfoldable pub packed : Level → List ℕ → List ℕ
packed l key = tail l key ++ row_of (position_bits l.r) (positions_in l) (positions l key)

abbrev pub row_part : List ℕ → List ℕ
row_part bytes = drop tail_bytes bytes

-- "pad set": a bit after the last position
abbrev pub padded : Level → List ℕ → Bool
padded l bytes = pad_set (packed_bits l) (row_part bytes)

unfoldable pub unpacked : Level → List ℕ → List ℕ
unpacked l bytes = two_bytes (in_row (position_bits l.r) (positions_in l) (row_part bytes)) ++ take tail_bytes bytes
