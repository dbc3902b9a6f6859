-- `level_of` picks the row of the level, and the first row where there is none.
use mathlib.Core.Path.{◌≡◌, refl, sym}
use mathlib.Core.Bool.{Bool, true, false}
use Prim.Native.Nat.{ℕ}
use lib.Dec.{eqb}
use borrow.Author.Tests.{ne_eqb}
use Rattle.ring.specs.Levels.{level1, level3, level5, table, row_in, level_of}
use Rattle.ring.specs.inner.Rows.{row}
use Rattle.ring.proofs.level.level_of.Goals as goal

-- all others
first : (level : ℕ) → eqb level 3 ≡ false → eqb level 5 ≡ false → level_of level ≡ level1
unfolding level_of row_in table level1 level3 level5
first level not-3 not-5 = go (eqb level 1)
  where
    go : (t : Bool) →
        elim t [ true ↦ level1 | false ↦ elim (eqb level 3) [ true ↦ level3 | false ↦ elim (eqb level 5) [ true ↦ level5 | false ↦ level1 ] ] ] ≡ level1
    go true = refl
    go false = rw (not-3, not-5)

pub returns-then-level-eq5 : goal.returns-then-level-eq5
unfolding row level_of row_in table level1 level3 level5
returns-then-level-eq5 c = rw c.if-level-eq5.true

pub returns-then-level-eq3 : goal.returns-then-level-eq3
unfolding row level_of row_in table level1 level3
returns-then-level-eq3 c = rw c.if-level-eq3.true

pub returns : goal.returns
unfolding row level1
returns c = sym (first _ (ne_eqb _ _ c.if-level-eq3.false) (ne_eqb _ _ c.if-level-eq5.false))
