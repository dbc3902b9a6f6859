-- `put` stores one byte after another.
use mathlib.Core.Path.{◌≡◌}
use Prim.Native.Nat.{suc, ◌+◌}
use native.Mathlib.Nat.{div-one}
use native.Mathlib.Omega.{arith}
use Rattle.hashing.specs.Lists.{tab}
use Rattle.ring.proofs.unpack.put.Goals as goal

pub returns : goal.returns
unfolding tab
returns c =
    let at = c.args.at in
    let e1 : at + 1 ≡ suc at = omega arith in
    let e2 : at + 2 ≡ suc (suc at) = omega arith in
    let e3 : at + 3 ≡ suc (suc (suc at)) = omega arith in
    let e4 : at + 4 ≡ suc (suc (suc (suc at))) = omega arith in
    let e5 : at + 5 ≡ suc (suc (suc (suc (suc at)))) = omega arith in
    let e6 : at + 6 ≡ suc (suc (suc (suc (suc (suc at))))) = omega arith in
    let e7 : at + 7 ≡ suc (suc (suc (suc (suc (suc (suc at)))))) = omega arith in
    rw (e1, e2, e3, e4, e5, e6, e7, div-one)
