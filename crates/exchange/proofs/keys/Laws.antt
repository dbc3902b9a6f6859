-- The two halves that key making draws are polynomials of the ring, each of weight d; how they are written. Assumes nothing.
use mathlib.Core.Path.{◌≡◌, refl, sym, ap, ◌∙◌}
use mathlib.Core.Bool.{Bool, true, false}
use mathlib.Core.List.{List, [], ◌∷◌, ◌++◌, append_assoc}
use Prim.Native.Nat.{ℕ, suc, ◌+◌, ◌*◌, ◌/◌, ◌%◌, ◌≤◌, ◌<◌}
use native.Mathlib.Numerals.{add-one}
use native.Mathlib.Omega.{arith}
use lib.Dec.{lit≤}
use lib.ListN.{length, get_or, set, drop, take, length-append}
use lib.Seq.{length-take-le, take-suc, drop-cons, set_at}
use borrow.Author.Tests.{ltb-false}
use Rattle.hashing.specs.Sponge.{sha3_384}
use Rattle.hashing.proofs.sponge.Squeezing.{sha3_384-length}
use Rattle.ring.specs.Levels.{Level, level_of, message_bytes}
use Rattle.ring.specs.Polynomials.{Poly, InRing, weight, listed, support, has_inverse}
use Rattle.ring.proofs.Bools.{both_false}
use Rattle.ring.proofs.Invertible.{light_inverts}
use Rattle.ring.proofs.Levels.{sizes, d_odd}
use Rattle.exchange.specs.Fair.{ran_out, drawn_for}
use Rattle.exchange.specs.Scheme.{h0_drawn, h1_drawn, h0_of, h1_of, key_ran_out, key_digest, two_bytes}
use Rattle.exchange.proofs.Making.{length-two_bytes, two_bytes-append}
use Rattle.exchange.proofs.fair.Laws.{Sound, fair_sound}
use Rattle.exchange.proofs.sampler.Laws.{distinct_weight}

-- a polynomial of the ring, of weight d
pub record Half (r d : ℕ) (h : Poly) : Type 0 where
  pub inside : InRing r h
  pub weighs : weight r h ≡ d

pub half_is : {r d : ℕ} {a b : Poly} → a ≡ b → Half r d b → Half r d a
half_is same half = rw same half

-- what is drawn has its weight where the words did not run out
drawn_half : (l : Level) (words : List ℕ) → ran_out l.d (drawn_for l words) ≡ false → Half l.r l.d (support (drawn_for l words).positions)
unfolding support ran_out
drawn_half l words enough =
    let full : l.d ≤ length positions = ltb-false (length positions) l.d enough in
    record {
      inside = λ k past. outside k past (listed k positions) refl;
      weighs = distinct_weight l.r positions sound.apart sound.within ∙ omega (arith, full, sound.few);
    }
  where
    positions : List ℕ
    positions = (drawn_for l words).positions

    sound : Sound l.r l.d (drawn_for l words)
    sound = fair_sound l words

    outside : (k : ℕ) → l.r ≤ k → (t : Bool) → listed k positions ≡ t → t ≡ false
    outside k past true e = absurd (let below = sound.within k e in omega arith)
    outside k past false e = refl

module _ (l : Level) (seed : List ℕ) (enough : key_ran_out l seed ≡ false) where
  pub h0_half : Half l.r l.d (h0_of l seed)
  unfolding key_ran_out h0_of h0_drawn
  h0_half = drawn_half l _ (both_false (ran_out l.d (h0_drawn l seed)) _ enough).0

  pub h1_half : Half l.r l.d (h1_of l seed)
  unfolding key_ran_out h1_of h1_drawn
  h1_half = drawn_half l _ (both_false (ran_out l.d (h0_drawn l seed)) _ enough).1

-- such a half has an inverse: d is odd and below r
pub half_inverts : (level : ℕ) {a : Poly} → Half (level_of level).r (level_of level).d a → has_inverse (level_of level).r a ≡ true
half_inverts level half =
    let small = sizes level in
    light_inverts level half.inside (ap (λ (w : ℕ). w % 2) half.weighs ∙ d_odd level) (omega (arith, half.weighs))

pub h0_inverts : (level : ℕ) (seed : List ℕ) → key_ran_out (level_of level) seed ≡ false
    → has_inverse (level_of level).r (h0_of (level_of level) seed) ≡ true
h0_inverts level seed enough = half_inverts level (h0_half (level_of level) seed enough)

pub key_digest-length : (public : List ℕ) → length (key_digest public) ≡ message_bytes
unfolding key_digest
key_digest-length public = length-take-le message_bytes (sha3_384 public) (rw (sha3_384-length public) (lit≤ tt))

-- two bytes more: the loop that writes positions
pub two_more : (i : ℕ) (list out : List ℕ) → i < length list → length out ≡ 2 * length list
    → set (set (two_bytes (take i list) ++ drop (2 * i) out) (2 * i) (get_or list i 0 % 256)) (2 * i + 1) (get_or list i 0 / 256)
    ≡ two_bytes (take (i + 1) list) ++ drop (2 * (i + 1)) out
unfolding two_bytes
two_more i list out more long =
    rw (drop-cons out (2 * i) 0 (omega arith), drop-cons out (suc (2 * i)) 0 (omega arith), set_at front x (y ∷ rest) low (2 * i) size)
    (rw (← append_assoc front (low ∷ []) (y ∷ rest), set_at (front ++ (low ∷ [])) y rest high (2 * i + 1) size')
    (rw (append_assoc front (low ∷ []) (high ∷ rest), add-one i, take-suc list i 0 more, two_bytes-append (take i list) (get_or list i 0 ∷ []), next)
    (sym (append_assoc front (low ∷ high ∷ []) rest))))
  where
    front : List ℕ
    front = two_bytes (take i list)

    low : ℕ
    low = get_or list i 0 % 256

    high : ℕ
    high = get_or list i 0 / 256

    x : ℕ
    x = get_or out (2 * i) 0

    y : ℕ
    y = get_or out (suc (2 * i)) 0

    rest : List ℕ
    rest = drop (suc (suc (2 * i))) out

    size : length front ≡ 2 * i
    size = length-two_bytes (take i list) ∙ ap (◌*◌ 2) (length-take-le i list (omega arith))

    size' : length (front ++ (low ∷ [])) ≡ 2 * i + 1
    size' = length-append front (low ∷ []) ∙ ap (λ (n : ℕ). n + 1) size

    next : 2 * suc i ≡ suc (suc (2 * i))
    next = omega arith
