-- `hashing::keccak::placed`: the seven places lie in a word.
use Prim.Native.Nat.{◌-◌, ◌^◌}
use native.Mathlib.Nat.{mod-lt}
use native.Mathlib.Omega.{arith}
use lib.Dec.{lit<}
use lib.Pow.{shl_exact}
use Rattle.hashing.proofs.keccak.Registers.{power, place_within}
use Rattle.hashing.proofs.keccak.placed.Goals as goal

pub returns : goal.returns
returns c =
    let below = place_within c.args.j c.requires in
    rw (power c.args.j c.requires) (shl_exact 1 (2 ^ c.args.j - 1) 64 (mod-lt _ (lit< tt)) (omega arith))

pub overflow_shl-result-2 : goal.overflow_shl-result-2
overflow_shl-result-2 c = rw (power c.args.j c.requires) (place_within c.args.j c.requires)
