-- `lay` writes byte by byte: before turn j the first j bytes are there.
use mathlib.Core.Path.{◌≡◌, refl, ap₂, ◌∙◌}
use mathlib.Core.List.{List}
use Prim.Native.Nat.{ℕ}
use native.Mathlib.Omega.{arith}
use lib.ListN.{length, set}
use Rattle.hashing.proofs.Lists.{filled_none, filled_more, filled_all}
use Rattle.ring.specs.Bytes.{list_of}
use Rattle.packing.proofs.row.lay.Goals as goal
use Rattle.packing.proofs.row.lay.Invariants.{byte}

pub loop-j-init : goal.loop-j-init
loop-j-init c = (omega arith, filled_none (byte _ _ _ _) _)

pub loop-j-preserved : goal.loop-j-preserved
loop-j-preserved c =
    let was = c.loop-j in
    let given = c.args in (
      omega arith,
      ap₂ (λ (l : List ℕ) (y : ℕ). set l was.j y) was.invariant.1 c.byte.ensures
          ∙ filled_more was.j (byte given.bytes.now given.count given.from given.to) given.out.now 0 (omega arith),
    )

pub returns : goal.returns
unfolding list_of
returns c =
    let was = c.loop-j in
    let given = c.args in
    let all : was.j ≡ length given.out.now = omega arith in
    was.invariant.1
    ∙ rw all (filled_all (length given.out.now) (byte given.bytes.now given.count given.from given.to) given.out.now refl)
