-- `hashing::keccak::moved`: θ, ρ and π on the lane that π brings to (x, y).
use mathlib.Core.Path.{◌≡◌, ◌∙◌}
use Prim.Native.Nat.{◌+◌, ◌*◌, ◌/◌, ◌%◌}
use native.Mathlib.Omega.{arith}
use Rattle.hashing.specs.Keccak.{lane}
use Rattle.hashing.proofs.keccak.Laws.{moved_lane, offset_lt}
use Rattle.hashing.proofs.keccak.moved.Goals as goal

pub rotated-requires : goal.rotated-requires
rotated-requires c = rw c.turn.ensures (offset_lt _ _)

pub returns : goal.returns
unfolding lane
returns c =
    let x = c.args.x in
    let y = c.args.y in
    let column : (5 * x + (x + 3 * y) % 5) % 5 ≡ (x + 3 * y) % 5 = omega arith in
    let plane : (5 * x + (x + 3 * y) % 5) / 5 ≡ x = omega arith in
    c.rotated.ensures ∙ rw (c.turn.ensures, column, plane) (moved_lane _ _ x y c.requires.fact_1 c.requires.fact_2.0 c.requires.fact_2.1)
