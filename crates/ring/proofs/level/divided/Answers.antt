-- `divided` has the divisors of the table.
use mathlib.Core.Path.{◌≡◌, refl, sym, ap}
use mathlib.Core.Bool.{Bool, true, false}
use Prim.Native.Nat.{ℕ, ◌/◌}
use lib.Dec.{eqb}
use borrow.Author.Tests.{ne_eqb}
use Rattle.ring.specs.Levels.{Level, level1, level3, level5, table, row_in, level_of}
use Rattle.ring.proofs.level.divided.Goals as goal

-- all but Level 5
others : (level : ℕ) → eqb level 5 ≡ false → (level_of level).divisor ≡ 10000000
unfolding level_of row_in table level1 level3 level5
others level not-5 = go (eqb level 1) (eqb level 3)
  where
    go : (s t : Bool) →
        let l : Level = elim s [ true ↦ level1 | false ↦ elim t [ true ↦ level3 | false ↦ elim (eqb level 5) [ true ↦ level5 | false ↦ level1 ] ] ] in
        l.divisor ≡ 10000000
    go true t = refl
    go false true = refl
    go false false = rw not-5

pub returns-then-level-eq5 : goal.returns-then-level-eq5
unfolding level_of row_in table level1 level3 level5
returns-then-level-eq5 c = rw c.if-level-eq5.true

pub returns : goal.returns
returns c = ap (◌/◌ c.args.n) (sym (others c.args.level (ne_eqb _ _ c.if-level-eq5.false)))
