-- How a private key is read. Assumes nothing.
use Rattle.std.specs.Prelude.{Bool, true, ◌&&◌, List, [], ◌∷◌, ℕ, suc, ◌+◌, ◌*◌, leb, ltb, take, drop}
use Rattle.ring.specs.Bytes.{numbers}
use Rattle.ring.specs.Levels.{Level, message_bytes}
use Rattle.ring.specs.Polynomials.{support}
use Rattle.exchange.specs.decoder.Decoder.{Pair}

-- "Private key: d positions of h0, d positions of h1, two bytes each, little-endian, ..; then sigma"
unfoldable pub positions0 : Level → List ℕ → List ℕ
positions0 l key = numbers 2 l.d key

unfoldable pub positions1 : Level → List ℕ → List ℕ
positions1 l key = numbers 2 l.d (drop (2 * l.d) key)

unfoldable pub secret : Level → List ℕ → Pair
secret l key = record { half0 = support (positions0 l key); half1 = support (positions1 l key) }

-- what follows the positions, and sigma, its first 32 bytes
unfoldable pub tail : Level → List ℕ → List ℕ
tail l key = drop (2 * (l.d + l.d)) key

unfoldable pub sigma : Level → List ℕ → List ℕ
sigma l key = take message_bytes (tail l key)

-- CR 4: "The private key gets D after sigma", as it stands there
unfoldable pub digest_in : Level → List ℕ → List ℕ
digest_in l key = drop message_bytes (tail l key)

-- "strictly rising inside each half, below r": none below `least`, and each above the one before it
unfoldable pub rising_from : ℕ → ℕ → List ℕ → Bool
rising_from r least [] = true
rising_from r least (p ∷ rest) = leb least p && (ltb p r && rising_from r (suc p) rest)

unfoldable pub good_key : Level → List ℕ → Bool
good_key l key = rising_from l.r 0 (positions0 l key) && rising_from l.r 0 (positions1 l key)
