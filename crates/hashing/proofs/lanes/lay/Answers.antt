-- `lay`: eight bytes or one, as the count says.
use mathlib.Core.Path.{◌≡◌, ap, ◌∙◌}
use Prim.Native.Nat.{ℕ}
use native.Mathlib.Omega.{arith}
use lib.ListN.{set}
use Rattle.hashing.proofs.lanes.Laws.{at_once_one, laid_one}
use Rattle.hashing.proofs.lanes.lay.Goals as goal
use Rattle.hashing.proofs.lanes.lay.Goals.{Else-n-eq8}

single : (c : Else-n-eq8) → c.args.n ≡ 1
single c = at_once_one c.args.k c.args.n c.requires.1 c.if-n-eq8.false

pub returns : goal.returns
returns c =
    let given = c.args in
    let alone = single (goal.at.returns c).Else-n-eq8 in
    ap (λ (v : ℕ). set given.out.now given.i v) c.byte_of.ensures
    ∙ laid_one given.lane given.k given.n given.i given.out.now alone (omega arith)
