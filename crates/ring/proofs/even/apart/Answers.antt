-- `apart` moves blocks apart, whatever stands in them.
use Rattle.ring.proofs.even.Laws.{blocks_apart}
use Rattle.ring.proofs.even.apart.Goals as goal

pub returns : goal.returns
returns c = λ y n size masks was. blocks_apart c.args.s n y c.args.v c.args.mask size masks was
