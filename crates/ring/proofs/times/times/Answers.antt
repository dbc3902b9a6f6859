-- `times` takes the sparse product by the exponents of y, or the dense one.
use mathlib.Core.Path.{sym, ap, ◌∙◌}
use mathlib.Core.List.{List}
use Prim.Native.Nat.{ℕ, ◌<◌}
use native.Mathlib.Omega.{arith}
use lib.ListN.{get_or}
use lib.Seq.{get_or-take}
use Rattle.hashing.specs.Lists.{bits}
use Rattle.ring.specs.Polynomials.{Poly, mul, terms}
use Rattle.ring.proofs.Ring.{mul_comm}
use Rattle.ring.proofs.Weights.{length-rising}
use Rattle.ring.proofs.times.Laws.{rising_below, terms-rising}
use Rattle.ring.proofs.times.times.Goals as goal
use Rattle.ring.proofs.times.times.Goals.{After-rising-list}

pub rising-list-requires : goal.rising-list-requires
rising-list-requires c =
    let few = c.requires.fact_3 c.if-ones-le-MOST_D.true in
    record {
      fact_1 = (c.requires.fact_1.2, c.if-ones-le-MOST_D.true);
      fact_2 = c.requires.fact_2.1;
      fact_3 = length-rising c.args.r (bits 64 c.args.y) ∙ few;
    }

-- each position that is listed is below r
below : (c : After-rising-list) (i : ℕ) → i < c.args.ones → get_or c.rising-list.result i 0 < c.args.r
below c i more =
    let given = c.args in
    let same = sym (get_or-take given.ones c.rising-list.result i 0 more) ∙ ap (λ (xs : List ℕ). get_or xs i 0) c.rising-list.ensures in
    rw same (rising_below given.r (bits 64 given.y) i (omega arith))

pub sparse-requires : goal.sparse-requires
sparse-requires c =
    record {
      fact_1 = (c.requires.fact_1.1, c.requires.fact_1.2, omega arith, omega arith);
      fact_2 = c.requires.fact_2.0;
      fact_3 = below (goal.at.sparse-requires c).After-rising-list;
    }

pub returns-then-ones-le-MOST_D : goal.returns-then-ones-le-MOST_D
returns-then-ones-le-MOST_D c =
    let r = c.args.r in
    let y = bits 64 c.args.y in
    c.sparse.ensures
    ∙ ap (λ (a : Poly). mul r a (bits 64 c.args.x)) (ap (terms r) c.rising-list.ensures ∙ terms-rising r c.requires.fact_2.1)
    ∙ mul_comm r y (bits 64 c.args.x)
