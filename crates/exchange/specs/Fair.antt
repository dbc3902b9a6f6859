-- CR 5, "Algorithm 1 of source 001": fair positions from words of 32 bits. Assumes nothing.
use Rattle.std.specs.Prelude.{Bool, true, false, not, ◌&&◌, List, [], ◌∷◌, ◌++◌, ℕ, suc, ◌-◌, ◌^◌, ltb, length}
use Rattle.std.specs.Int.Bits.{bit_and}
use Rattle.ring.specs.Levels.{Level, position_bits}
use Rattle.ring.specs.Polynomials.{listed}

-- "Each polynomial may use 512 words"
abbrev pub most_words : ℕ
most_words = 512

-- "mask each 32-bit word with 2^14 − 1 at Level 1, 2^15 − 1 at Level 3"
unfoldable pub mask_of : ℕ → ℕ
mask_of r = 2 ^ position_bits r - 1

-- "below r and not yet listed"
unfoldable pub taken : ℕ → ℕ → List ℕ → Bool
taken r pos list = ltb pos r && not (listed pos list)

-- the positions in the order of listing; "the words used (all that were drawn) and those of them passed over"
pub record Drawn : Type 0 where
  pub positions : List ℕ
  pub used : ℕ
  pub passed : ℕ

-- a word is drawn: its position "is appended", or it is passed over
unfoldable pub draw_one : ℕ → ℕ → ℕ → Drawn → Drawn
draw_one r mask word so =
    let pos = bit_and word mask in
    elim (taken r pos so.positions) [
      | true ↦ record { positions = so.positions ++ (pos ∷ []); used = suc so.used; passed = so.passed }
      | false ↦ record { positions = so.positions; used = suc so.used; passed = suc so.passed }
    ]

-- one after another, until d positions are listed or the words run out
unfoldable pub draw_on : ℕ → ℕ → ℕ → List ℕ → Drawn → Drawn
draw_on r d mask [] so = so
draw_on r d mask (word ∷ rest) so =
    elim (ltb (length so.positions) d) [ true ↦ draw_on r d mask rest (draw_one r mask word so) | false ↦ so ]

unfoldable pub draw : ℕ → ℕ → ℕ → List ℕ → Drawn
draw r d mask words = draw_on r d mask words (record { positions = []; used = 0; passed = 0 })

-- "words ran out before d positions were listed"
unfoldable pub ran_out : ℕ → Drawn → Bool
ran_out d drawn = ltb (length drawn.positions) d

-- with a level's numbers
unfoldable pub drawn_for : Level → List ℕ → Drawn
drawn_for l words = draw l.r l.d (mask_of l.r) words
