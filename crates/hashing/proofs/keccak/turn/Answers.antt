-- `hashing::keccak::turn`: after i turns the walk stands at step 6i.
use mathlib.Core.Path.{◌≡◌, refl}
use native.Mathlib.Omega.{arith}
use Rattle.hashing.specs.Keccak.{offset}
use Rattle.hashing.proofs.keccak.Walking.{stands_first}
use Rattle.hashing.proofs.keccak.turn.Goals as goal

pub returns : goal.returns
unfolding offset
returns c =
    let last : c.loop-i.walk.t ≡ 24 = omega arith in rw last at c.loop-i.invariant.2.turned

pub loop-i-init : goal.loop-i-init
loop-i-init c = (omega arith, refl, stands_first _)
