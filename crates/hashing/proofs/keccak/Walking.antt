-- The walk of 3.2.2: a step of it is a step of `walk`, and turns a lane as `offset_within` says. Assumes nothing.
use mathlib.Core.Path.{◌≡◌, refl}
use mathlib.Core.Bool.{true, false}
use Prim.Native.Nat.{ℕ, suc, ◌+◌, ◌*◌, ◌/◌, ◌%◌, ◌≤◌, ◌<◌}
use native.Mathlib.Nat.{mod-lt, mul-le-mul}
use native.Mathlib.Decide.{ℕ_discrete}
use native.Mathlib.Numerals.{add-one}
use native.Mathlib.Omega.{arith}
use lib.Dec.{lit<}
use borrow.Author.Tests.{eq-eqb, ne_eqb}
use Rattle.hashing.specs.declared.keccak.Walk.{Walk}
use Rattle.hashing.specs.Keccak.{Place, walk, is_at, offset_within}
use Rattle.hashing.specs.inner.Constants.{Stands, Goes}

is_at_lem : (p : Place) (x y : ℕ) → p.x ≡ x → p.y ≡ y → is_at p x y ≡ true
unfolding is_at
is_at_lem p x y column plane = rw (eq-eqb _ _ column, is_at) (eq-eqb _ _ plane)

not_at : (p : Place) (x y : ℕ) → (p.x ≡ x → p.y ≡ y → ⊥) → is_at p x y ≡ false
unfolding is_at
not_at p x y elsewhere = go (ℕ_discrete p.x x)
  where
    go : Dec (p.x ≡ x) → is_at p x y ≡ false
    go (yes column) = rw (eq-eqb _ _ column, is_at) (ne_eqb _ _ (elsewhere column))
    go (no column) = rw (ne_eqb _ _ column, is_at)

-- where it begins
pub stands_first : (place : ℕ) → Stands place record { x = 1; y = 0; t = 0; turn = 0 }
unfolding walk offset_within
stands_first place = record { x = refl; y = refl; x_within = lit< tt; y_within = lit< tt; turned = refl }

module _ (place : ℕ) (w : Walk) (now : Stands place w) where
  -- whether it stands at the lane that is asked for
  pub met : 5 * w.y + w.x ≡ place → is_at (walk w.t) (place % 5) (place / 5) ≡ true
  met here = is_at_lem (walk w.t) (place % 5) (place / 5) (omega arith) (omega arith)

  pub unmet : (5 * w.y + w.x ≡ place → ⊥) → is_at (walk w.t) (place % 5) (place / 5) ≡ false
  unmet elsewhere = not_at (walk w.t) (place % 5) (place / 5) (λ column plane. elsewhere (omega arith))

  -- a step goes to y and to what is next beside it
  pub goes : {next turn : ℕ} → next ≡ (walk (suc w.t)).y → turn ≡ offset_within (suc w.t) (place % 5) (place / 5)
      → Goes 1 place w record { x = w.y; y = next; t = w.t + 1; turn = turn }
  unfolding walk
  goes beside turned =
      record {
        later = refl;
        stands = record {
          x = rw add-one now.y;
          y = rw add-one beside;
          x_within = now.y_within;
          y_within = rw beside (mod-lt _ (lit< tt));
          turned = rw add-one turned;
        };
      }

-- at t < 24 the turn is worked out within a word
pub turn_fits : (t : ℕ) → t < 24 → (t + 1) * (t + 2) ≤ 600
turn_fits t h =
    let one : t + 1 ≤ 24 = omega arith in
    let two : t + 2 ≤ 25 = omega arith in
    mul-le-mul one two
