-- `hashing::kmac::zeros`: none at the start of a block, else as many as are left of it.
use mathlib.Core.Path.{◌≡◌}
use Prim.Native.Nat.{◌+◌, ◌-◌, ◌%◌}
use native.Mathlib.Omega.{arith}
use Rattle.hashing.proofs.kmac.Laws.{rest_zeros}
use Rattle.hashing.proofs.kmac.zeros.Goals as goal

pub returns : goal.returns
returns c =
    let place = c.args.hash.place in
    let left : (136 - place) % 136 ≡ 136 - place = omega arith in
    let all : 136 ≡ place + (136 - place) = omega arith in
    rw (left, ← rest_zeros place (136 - place), ← all) c.absorb.ensures
