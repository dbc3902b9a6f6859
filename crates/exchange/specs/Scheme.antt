-- "Rules of the scheme": keys, the hash functions H, L and K, wrapping. Assumes nothing.
use Rattle.std.specs.Prelude.{Bool, ◌&&◌, ◌||◌, List, [], ◌∷◌, ◌++◌, ℕ, ◌+◌, ◌*◌, ◌/◌, ◌%◌, ltb, get_or, take, drop}
use Rattle.std.specs.Int.Bits.{bit_xor}
use Rattle.hashing.specs.Lists.{tab}
use Rattle.hashing.specs.Sponge.{shake256, sha3_384}
use Rattle.ring.specs.Bytes.{bytes_of, numbers}
use Rattle.ring.specs.Levels.{Level, message_bytes}
use Rattle.ring.specs.Polynomials.{Poly, rising, add, mul, inverse_of, listed, support}
use Rattle.exchange.specs.decoder.Decoder.{Pair}
use Rattle.exchange.specs.Fair.{most_words, Drawn, ran_out, drawn_for}
use Rattle.exchange.specs.Sampler.{sample_error, replaced}

-- "Key making": the stream of the seed's first 32 bytes, as words, by CR 5 as many as both polynomials may use
abbrev pub key_words : ℕ
key_words = most_words + most_words

unfoldable pub key_stream : List ℕ → List ℕ
key_stream seed = numbers 4 key_words (shake256 (take message_bytes seed) (4 * key_words))

-- "Each polynomial may use 512 words"; "h1 goes on at the word after h0's last"
unfoldable pub h0_drawn : Level → List ℕ → Drawn
h0_drawn l seed = drawn_for l (take most_words (key_stream seed))

unfoldable pub h1_drawn : Level → List ℕ → Drawn
h1_drawn l seed = drawn_for l (take most_words (drop (h0_drawn l seed).used (key_stream seed)))

unfoldable pub h0_of : Level → List ℕ → Poly
h0_of l seed = support (h0_drawn l seed).positions

unfoldable pub h1_of : Level → List ℕ → Poly
h1_of l seed = support (h1_drawn l seed).positions

-- "words ran out before d positions were listed", of h0 or of h1
unfoldable pub key_ran_out : Level → List ℕ → Bool
key_ran_out l seed = ran_out l.d (h0_drawn l seed) || ran_out l.d (h1_drawn l seed)

-- "for each, the words used (all that were drawn) and those of them passed over"
abbrev pub key_counts : Level → List ℕ → List ℕ
key_counts l seed = (h0_drawn l seed).used ∷ (h0_drawn l seed).passed ∷ (h1_drawn l seed).used ∷ (h1_drawn l seed).passed ∷ []

-- "The seed's last 32 bytes are sigma"
unfoldable pub sigma_of : List ℕ → List ℕ
sigma_of seed = drop message_bytes seed

-- "Public key h = h1 · h0^(−1)"
unfoldable pub public_of : Level → List ℕ → Poly
public_of l seed = mul l.r (h1_of l seed) (inverse_of l.r (h0_of l seed))

-- "two bytes each, little-endian"
unfoldable pub two_bytes : List ℕ → List ℕ
two_bytes [] = []
two_bytes (p ∷ rest) = p % 256 ∷ p / 256 ∷ two_bytes rest

-- "Private key: d positions of h0, d positions of h1 ..; then sigma", which is the tail
unfoldable pub private_key_of : ℕ → Poly → Poly → List ℕ → List ℕ
private_key_of r h0 h1 tail = two_bytes (rising r h0) ++ (two_bytes (rising r h1) ++ tail)

-- CR 4: "D is the first 32 bytes of SHA3-384 over the public key's bytes"
unfoldable pub key_digest : List ℕ → List ℕ
key_digest public = take message_bytes (sha3_384 public)

-- the private key of a seed: "The private key gets D after sigma"
abbrev pub private_of : Level → List ℕ → List ℕ
private_of l seed =
    private_key_of l.r (h0_of l seed) (h1_of l seed) (sigma_of seed ++ key_digest (bytes_of l.r (public_of l seed)))

-- "H(m): SHAKE256 of m, 4t bytes, len 2r, weight t; position p below r is bit p of e0, else bit p − r of e1"
unfoldable pub error_positions : Level → List ℕ → List ℕ
error_positions l m = sample_error (2 * l.r) l.t (numbers 4 l.t (shake256 m (4 * l.t)))

-- CR 2: how many of them were replaced
unfoldable pub error_replaced : Level → List ℕ → ℕ
error_replaced l m = replaced (2 * l.r) l.t (numbers 4 l.t (shake256 m (4 * l.t)))

unfoldable pub split : ℕ → List ℕ → Pair
split r positions =
    record { half0 = λ k. ltb k r && listed k positions; half1 = λ k. ltb k r && listed (r + k) positions }

unfoldable pub hash_h : Level → List ℕ → Pair
hash_h l m = split l.r (error_positions l m)

-- CR 4: "f(m, h) = first 32 bytes of SHA3-384 over m and D"
unfoldable pub bound : List ℕ → List ℕ → List ℕ
bound digest m = take message_bytes (sha3_384 (m ++ digest))

-- "Wrapping and opening use H(f(m, h)) where they used H(m)"
abbrev pub bound_h : Level → List ℕ → List ℕ → Pair
bound_h l digest m = hash_h l (bound digest m)

-- "L(e0, e1): first 32 bytes of SHA3-384 over both polynomials' bytes, pads included"
unfoldable pub hash_l : ℕ → Pair → List ℕ
hash_l r e = take message_bytes (sha3_384 (bytes_of r e.half0 ++ bytes_of r e.half1))

-- "K(m, c): first 32 bytes of SHA3-384 over m, then the ciphertext bytes"
unfoldable pub hash_k : List ℕ → List ℕ → List ℕ
hash_k m c = take message_bytes (sha3_384 (m ++ c))

unfoldable pub xor_bytes : List ℕ → List ℕ → List ℕ
xor_bytes a b = tab message_bytes (λ i. bit_xor (get_or a i 0) (get_or b i 0))

-- "Wrapping. (e0, e1) = H(m)", by CR 4 H(f(m, h)); "c0 = e0 + e1·h; c1 = m xor L(e0, e1); key K(m, c)"
unfoldable pub wrapped : Level → List ℕ → Poly → List ℕ → List ℕ
wrapped l digest h m =
    let e = bound_h l digest m in bytes_of l.r (add e.half0 (mul l.r e.half1 h)) ++ xor_bytes m (hash_l l.r e)
