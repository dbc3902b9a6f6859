-- Document 02, CR 6: the record of a map write, as it is written and as it is read. Assumes nothing.
use Rattle.std.specs.Prelude.{Bool, true, false, ◌&&◌, List, [], ◌∷◌, ◌++◌, ℕ, zero, suc, ◌+◌, ◌*◌, ◌/◌, ◌%◌, eqb, take, drop}
use Rattle.hashing.specs.Kmac.{kmac256}
use Rattle.ring.specs.Bytes.{little_endian}

-- "map (256) and tag (32)"
abbrev pub map_bytes : ℕ
map_bytes = 256

abbrev pub tag_bytes : ℕ
tag_bytes = 32

-- what the tag covers, from byte 4 on: the kind's two bytes, kart number, counter and map; the tag comes after it
abbrev pub covered_bytes : ℕ
covered_bytes = 266

abbrev pub tag_at : ℕ
tag_at = 270

-- the body: kart number, counter, map and tag; and the whole record
abbrev pub map_body : ℕ
map_body = 296

abbrev pub record_bytes : ℕ
record_bytes = 302

-- "a record of thing 7, its kind carrying the session's level"
unfoldable pub map_kind : ℕ → ℕ
map_kind level = 256 * level + 7

-- x in n bytes, the lowest first
unfoldable pub little_bytes : ℕ → ℕ → List ℕ
little_bytes zero x = []
little_bytes (suc n) x = x % 256 ∷ little_bytes n (x / 256)

-- "the kind's two bytes and the body before the tag"
unfoldable pub covered : ℕ → ℕ → ℕ → List ℕ → List ℕ
covered level kart counter map =
    little_bytes 2 (map_kind level) ++ (little_bytes 4 kart ++ (little_bytes 4 counter ++ map))

-- "customization "kart map""
unfoldable pub customization : List ℕ
customization = 0x6b ∷ 0x61 ∷ 0x72 ∷ 0x74 ∷ 0x20 ∷ 0x6d ∷ 0x61 ∷ 0x70 ∷ []

-- "KMAC256 of NIST SP 800-185 under the session key, 32 bytes"
unfoldable pub tag_of : List ℕ → List ℕ → List ℕ
tag_of key bytes = kmac256 key bytes tag_bytes customization

unfoldable pub written : ℕ → List ℕ → ℕ → ℕ → List ℕ → List ℕ
written level key kart counter map =
    let what = covered level kart counter map in little_bytes 4 map_body ++ (what ++ tag_of key what)

-- the parts of lent bytes
unfoldable pub kart_in : List ℕ → ℕ
kart_in bytes = little_endian (take 4 (drop 6 bytes))

unfoldable pub counter_in : List ℕ → ℕ
counter_in bytes = little_endian (take 4 (drop 10 bytes))

unfoldable pub map_in : List ℕ → List ℕ
map_in bytes = take map_bytes (drop 14 bytes)

unfoldable pub covered_in : List ℕ → List ℕ
covered_in bytes = take covered_bytes (drop 4 bytes)

unfoldable pub tag_in : List ℕ → List ℕ
tag_in bytes = take tag_bytes (drop tag_at bytes)

-- whether two lists are the same
unfoldable pub equal : List ℕ → List ℕ → Bool
equal [] [] = true
equal [] (y ∷ ys) = false
equal (x ∷ xs) [] = false
equal (x ∷ xs) (y ∷ ys) = eqb x y && equal xs ys
