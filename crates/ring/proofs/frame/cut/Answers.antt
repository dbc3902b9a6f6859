-- `cut` takes the word of r modulo 2^(r mod 64).
use mathlib.Core.Path.{◌≡◌, ◌∙◌}
use Prim.Native.Nat.{◌/◌, ◌%◌, ◌*◌, ◌^◌, ◌<◌}
use native.Mathlib.Nat.{one-mul}
use native.Mathlib.Omega.{arith}
use lib.Dec.{lit<}
use lib.ListN.{length}
use lib.Pow.{shl_exact}
use Rattle.ring.proofs.frame.Laws.{cut_in, cut_below}
use Rattle.ring.proofs.frame.cut.Goals as goal
use Rattle.ring.proofs.frame.cut.Goals.{Start}

mask : (c : Start) → (1 * 2 ^ (c.args.r % 64)) % 2 ^ 64 ≡ 2 ^ (c.args.r % 64)
mask c = shl_exact 1 (c.args.r % 64) 64 (lit< tt) (omega arith) ∙ one-mul (2 ^ (c.args.r % 64))

pub returns : goal.returns
returns c =
    let r = c.args.r in
    let x = c.args.x in
    let room : r / 64 < length x = omega arith in
    record {
      fact_1 = rw (mask (goal.at.returns c).Start) (cut_in r x room c.requires.fact_2);
      fact_2 = rw (mask (goal.at.returns c).Start) (cut_below r x room);
    }
