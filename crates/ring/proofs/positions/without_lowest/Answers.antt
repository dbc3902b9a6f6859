-- `without_lowest`: where there is no bit, the shift is of 0.
use mathlib.Core.Path.{◌≡◌}
use Prim.Native.Nat.{◌-◌, ◌*◌, ◌/◌, ◌%◌, ◌^◌, ◌≤◌, ◌<◌}
use native.Mathlib.Omega.{arith}
use Rattle.ring.proofs.positions.Laws.{bit_off}
use Rattle.ring.proofs.positions.without_lowest.Goals as goal
use Rattle.ring.proofs.positions.without_lowest.Goals.{Start}

off : (c : Start) →
    let w = c.args.w in
    let t = c.args.zeros in
    ((1 - t / 64) * 2 ^ (t % 64) % 2 ^ 64 ≤ w) × (w ≡ 0 → w - (1 - t / 64) * 2 ^ (t % 64) % 2 ^ 64 ≡ 0)
    × (0 < w → w - (1 - t / 64) * 2 ^ (t % 64) % 2 ^ 64 ≡ w - 2 ^ t)
off c = bit_off c.args.w c.args.zeros (omega arith) c.requires

pub overflow_sub-result-2 : goal.overflow_sub-result-2
overflow_sub-result-2 c = (off (goal.at.overflow_sub-result-2 c).Start).0

pub returns : goal.returns
returns c = ((off (goal.at.returns c).Start).1, (off (goal.at.returns c).Start).2)
