-- "Opening". Assumes nothing.
use Rattle.std.specs.Prelude.{Bool, true, false, ◌&&◌, List, ℕ, take, drop}
use Rattle.hashing.specs.Lists.{bits}
use Rattle.ring.specs.Levels.{Level, poly_bytes}
use Rattle.ring.specs.Polynomials.{Poly, mul, same}
use Rattle.exchange.specs.decoder.Decoder.{Decoder, Pair, found}
use Rattle.exchange.specs.decoder.PrivateKey.{secret, sigma, digest_in}
use Rattle.exchange.specs.Scheme.{bound_h, hash_l, hash_k, xor_bytes}

-- "Decode c0·h0"
unfoldable pub syndrome_of : Level → List ℕ → List ℕ → Poly
syndrome_of l key c = mul l.r (bits 8 (take (poly_bytes l) c)) (secret l key).half0

-- "m' = c1 xor L(e')"
unfoldable pub message_of : Level → Pair → List ℕ → List ℕ
message_of l e c = xor_bytes (drop (poly_bytes l) c) (hash_l l.r e)

-- "in every bit"
unfoldable pub same_error : ℕ → Pair → Pair → Bool
same_error r e f = same r e.half0 f.half0 && same r e.half1 f.half1

abbrev pub either : Bool → List ℕ → List ℕ → List ℕ
either t a b = elim t [ true ↦ a | false ↦ b ]

-- "If e' = H(m') in every bit the key is K(m', c), else K(sigma, c)", by CR 4 with H(f(m', h)) for H(m')
unfoldable pub key_for : Level → List ℕ → List ℕ → List ℕ → Pair → List ℕ
key_for l digest substitute c e =
    let m = message_of l e c in hash_k (either (same_error l.r e (bound_h l digest m)) m substitute) c

unfoldable pub opened : Decoder → Level → List ℕ → List ℕ → List ℕ
opened decoder l key c = key_for l (digest_in l key) (sigma l key) c (found decoder l (secret l key) (syndrome_of l key c))
