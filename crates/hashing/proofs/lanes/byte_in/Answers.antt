-- The shift loses no bit: a byte below 2^8 goes up by at most 56 places.
use native.Mathlib.Omega.{arith}
use Prim.Native.Nat.{◌+◌, ◌*◌, ◌≤◌}
use lib.Pow.{shl_exact}
use Rattle.hashing.proofs.lanes.byte_in.Goals as goal

pub returns : goal.returns
returns c =
    let room : 8 + 8 * c.args.k ≤ 64 = omega arith in
    shl_exact 8 (8 * c.args.k) 64 (omega arith) room
