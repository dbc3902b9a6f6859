-- `exchanged` inverts one lane after another.
use native.Mathlib.Omega.{arith}
use Rattle.hashing.proofs.keccak.Inverting.{six_exchanged}
use Rattle.hashing.proofs.keccak.exchanged.Goals as goal

pub returns : goal.returns
returns c =
    rw (
      c.inverse-6.ensures,
      c.inverse-5.ensures,
      c.inverse-4.ensures,
      c.inverse-3.ensures,
      c.inverse-2.ensures,
      c.inverse.ensures,
    ) (six_exchanged c.args.lanes (omega arith))
