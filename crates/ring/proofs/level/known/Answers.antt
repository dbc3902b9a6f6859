-- `known` tests the numbers of the table.
use mathlib.Core.Path.{◌≡◌, refl, sym}
use mathlib.Core.Bool.{Bool, true, false, ◌||◌, or-false}
use lib.Dec.{eqb}
use Rattle.ring.specs.Levels.{level1, level3, level5, table, known}
use Rattle.ring.specs.Polynomials.{listed}
use Rattle.ring.proofs.level.known.Goals as goal

-- the list's end adds nothing
ends : (a b c : Bool) → (a || b) || c ≡ a || (b || (c || false))
ends true b c = refl
ends false true c = refl
ends false false c = sym (or-false c)

pub returns : goal.returns
unfolding known listed table level1 level3 level5
returns c = ends (eqb c.args.level 1) (eqb c.args.level 3) (eqb c.args.level 5)
