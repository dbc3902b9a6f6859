-- How the decoder's code holds a key, an error and what a round leaves. No public promise cites this file. Assumes
-- nothing.
use Rattle.std.specs.Prelude.{◌≡◌, Bool, true, false, List, ℕ, length, take}
use Rattle.hashing.specs.Lists.{bits}
use Rattle.ring.specs.inner.Sizes.{most_d}
use Rattle.ring.specs.Levels.{Level}
use Rattle.ring.specs.Polynomials.{Poly, InRing, support}
use Rattle.exchange.specs.declared.decoder.rounds
use Rattle.exchange.specs.declared.halves.Halves.{Halves}
use Rattle.exchange.specs.decoder.Decoder.{nothing, residual, Pair}
use Rattle.exchange.specs.decoder.PrivateKey.{rising_from}

-- the polynomials of two halves, and a fact about both
abbrev pub polynomials : (List ℕ → Poly) → Halves (List ℕ) → Pair
polynomials of h = record { half0 = of h.half0; half1 = of h.half1 }

abbrev pub Each : (List ℕ → Type 0) → Halves (List ℕ) → Type 0
Each P h = P h.half0 × P h.half1

-- the first d positions of each half
abbrev pub key_of : Level → Halves (List ℕ) → Pair
key_of l = polynomials (λ h. support (take l.d h))

-- room for the largest level, and the level's positions rise below r
abbrev pub Rising : Level → List ℕ → Type 0
Rising l h = (length h ≡ most_d) × (rising_from l.r 0 (take l.d h) ≡ true)

abbrev pub Good : Level → Halves (List ℕ) → Type 0
Good l = Each (Rising l)

-- bit j of a half is coefficient j
abbrev pub pair_of : Halves (List ℕ) → Pair
pair_of = polynomials (bits 64)

abbrev pub Inside : Level → Halves (List ℕ) → Type 0
Inside l = Each (λ x. InRing l.r (bits 64 x))

-- an error of the ring, and its residual carried along
abbrev pub Carried : Level → Pair → Poly → rounds.State.State → Type 0
Carried l h s st = (bits 64 st.x ≡ residual l.r h s (pair_of st.e)) × Inside l st.e

-- what is kept of an error: nothing after a failure
abbrev pub kept : Bool → Pair → Pair
kept failed e = elim failed [ true ↦ nothing | false ↦ e ]
