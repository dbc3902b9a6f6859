-- "Numbers of the two levels", and of CR 12's third: a row for each level, and all that follows from a row. Assumes nothing.
use Rattle.std.specs.Prelude.{Bool, true, false, List, [], ◌∷◌, map, ℕ, suc, ◌+◌, ◌*◌, ◌-◌, ◌/◌, eqb}
use Rattle.ring.specs.Bytes.{byte_length}
use Rattle.ring.specs.Chain.{top}
use Rattle.ring.specs.Polynomials.{listed}

pub record Level : Type 0 where
  pub number : ℕ
  -- block length in bits; weight of h0 and of h1; error weight
  pub r : ℕ
  pub d : ℕ
  pub t : ℕ
  -- the threshold of a residual of weight S: the larger of (slope S + offset) / divisor and least
  pub slope : ℕ
  pub offset : ℕ
  pub divisor : ℕ
  pub least : ℕ

unfoldable pub level1 : Level
level1 =
    record { number = 1; r = 12323; d = 71; t = 134; slope = 69722; offset = 135300000; divisor = 10000000; least = 36 }

unfoldable pub level3 : Level
level3 =
    record { number = 3; r = 24659; d = 103; t = 199; slope = 52650; offset = 152588000; divisor = 10000000; least = 52 }

-- CR 12: "r = 40973, d = 137 (source 003), t = 264", and its threshold
unfoldable pub level5 : Level
level5 =
    record { number = 5; r = 40973; d = 137; t = 264; slope = 402312; offset = 1587850000; divisor = 100000000; least = 69 }

unfoldable pub table : List Level
table = level1 ∷ level3 ∷ level5 ∷ []

-- CR 12: "a level other than 1, 3 and 5" is `known` false
unfoldable pub known : ℕ → Bool
known level = listed level (map (λ (l : Level). l.number) table)

-- the row with a level's number. `level_of` is read of a known level only: an unknown one reads the first row
unfoldable pub row_in : List Level → ℕ → Level
row_in [] level = level1
row_in (l ∷ rest) level = elim (eqb level l.number) [ true ↦ l | false ↦ row_in rest level ]

unfoldable pub level_of : ℕ → Level
level_of level = row_in table level

-- "A message, sigma and session key have 32 bytes"
abbrev pub message_bytes : ℕ
message_bytes = 32

-- "a key-making seed 64"
abbrev pub seed_bytes : ℕ
seed_bytes = 64

-- CR 4: what follows the positions of a private key, sigma and then D
abbrev pub tail_bytes : ℕ
tail_bytes = message_bytes + 32

-- lengths in bytes, and in words of 64 bits inside
abbrev pub poly_bytes : Level → ℕ
poly_bytes l = byte_length l.r

abbrev pub poly_words : Level → ℕ
poly_words l = (l.r + 63) / 64

abbrev pub pad_bits : Level → ℕ
pad_bits l = 8 * poly_bytes l - l.r

-- the binary digits of r, which hold every position below r
abbrev pub position_bits : ℕ → ℕ
position_bits r = suc (top r)

-- "Ciphertext: c0, then 32 bytes c1"
abbrev pub ciphertext_bytes : Level → ℕ
ciphertext_bytes l = poly_bytes l + message_bytes

-- "d positions of h0, d positions of h1, two bytes each", "then sigma"; CR 4: "The private key gets D after sigma"
abbrev pub private_bytes : Level → ℕ
private_bytes l = 2 * (l.d + l.d) + tail_bytes

-- the bound of the two masked steps of round 1: "counter ≥ (d+1)/2 + 1"
abbrev pub masked : Level → ℕ
masked l = (l.d + 1) / 2 + 1
