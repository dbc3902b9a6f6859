-- `two` adds its bytes up by their places.
use native.Mathlib.Nat.{add-zero}
use native.Mathlib.Omega.{arith}
use Rattle.ring.specs.Bytes.{little_endian}
use Rattle.ring.proofs.little_endian.Laws.{byte_more}
use Rattle.ring.proofs.little_endian.two.Goals as goal

pub returns : goal.returns
unfolding little_endian
returns c = rw (byte_more, byte_more, add-zero, c.from_le_bytes.ensures) (omega arith)
