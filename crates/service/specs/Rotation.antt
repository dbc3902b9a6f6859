-- CR 11: "multiply h0 and h1 by the same power of X, keep sigma and D". Assumes nothing.
use Rattle.std.specs.Prelude.{◌≡◌, not, ◌||◌, List, [], ◌∷◌, ℕ, leb, length}
use Rattle.hashing.specs.Answers.{Reason, Outcome, differs, settle}
use Rattle.hashing.specs.Answers.Outcome.{gives}
use Rattle.ring.specs.Levels.{Level, known, level_of, private_bytes}
use Rattle.ring.specs.Polynomials.{Poly, power, mul, inverse_of}
use Rattle.exchange.specs.decoder.Decoder.{Pair}
use Rattle.exchange.specs.decoder.PrivateKey.{secret, tail, good_key}
use Rattle.exchange.specs.Scheme.{private_key_of}

-- X^k times a polynomial, and the halves of a key by the same k
unfoldable pub turned : ℕ → ℕ → Poly → Poly
turned r k a = mul r (power r k) a

unfoldable pub turned_pair : ℕ → ℕ → Pair → Pair
turned_pair r k h = record { half0 = turned r k h.half0; half1 = turned r k h.half1 }

-- "rotates a private key by k, positions in rising order": as key making writes a private key
unfoldable pub rotated : Level → ℕ → List ℕ → List ℕ
rotated l k key =
    let h = turned_pair l.r k (secret l key) in
    private_key_of l.r h.half0 h.half1 (tail l key)

-- "Refusals: 1, 2, 4, then 15 for k ≥ r"
unfoldable pub rotate_key_reasons : ℕ → ℕ → List ℕ → ℕ → List Reason
rotate_key_reasons level k key room =
    let l = level_of level in
    record { applies = not (known level); number = 1 }
    ∷ record { applies = differs (length key) (private_bytes l) || differs room (private_bytes l); number = 2 }
    ∷ record { applies = not (good_key l key); number = 4 }
    ∷ record { applies = leb l.r k; number = 15 }
    ∷ []

unfoldable pub rotate_key_says : ℕ → ℕ → List ℕ → ℕ → Outcome
rotate_key_says level k key room =
    settle (rotate_key_reasons level k key room) (record { room = room; value = rotated (level_of level) k key } ∷ [])

abbrev pub RotateKeyPromise : ℕ → ℕ → List ℕ → ℕ → ℕ → List ℕ → Type 0
RotateKeyPromise level k key room r out = gives r (out ∷ []) ≡ rotate_key_says level k key room

-- "Public key h = h1 · h0^(−1)", of a private key whose h0 has an inverse
unfoldable pub public_for : Level → List ℕ → Poly
public_for l key = mul l.r (secret l key).half1 (inverse_of l.r (secret l key).half0)
