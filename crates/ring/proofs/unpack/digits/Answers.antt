-- `digits` is right for each byte.
use Rattle.ring.proofs.unpack.Laws.{digits_apart}
use Rattle.ring.proofs.unpack.digits.Goals as goal

pub returns : goal.returns
returns c = λ m below. digits_apart c.args.b m c.requires below
