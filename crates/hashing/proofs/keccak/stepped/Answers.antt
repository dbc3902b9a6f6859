-- `hashing::keccak::stepped`: R[8] is one bit, so that no shift of it loses any.
use mathlib.Core.Path.{◌≡◌}
use Prim.Native.Nat.{◌*◌, ◌/◌, ◌%◌, ◌^◌}
use native.Mathlib.Nat.{mod-eq_of_lt}
use native.Mathlib.Omega.{arith}
use Rattle.hashing.specs.inner.Constants.{fed_back, next}
use Rattle.hashing.proofs.keccak.Registers.{one_step}
use Rattle.hashing.proofs.keccak.stepped.Goals as goal

pub returns : goal.returns
unfolding next fed_back
returns c =
    let last = 2 * c.args.register / 256 in
    let four : last * 2 ^ 4 % 2 ^ 64 ≡ last * 2 ^ 4 = mod-eq_of_lt (omega arith) in
    let five : last * 2 ^ 5 % 2 ^ 64 ≡ last * 2 ^ 5 = mod-eq_of_lt (omega arith) in
    let six : last * 2 ^ 6 % 2 ^ 64 ≡ last * 2 ^ 6 = mod-eq_of_lt (omega arith) in
    simp (four, five, six) (one_step c.args.register c.requires)
