-- `pick` picks by its mask.
use Rattle.exchange.proofs.bytes.Laws.{picks_first, picks_second}
use Rattle.exchange.proofs.bytes.pick.Goals as goal

pub returns : goal.returns
returns c = (
  (λ e. rw e (picks_first c.args.a c.args.b c.ranges.a.fits)),
  (λ e. rw e (picks_second c.args.a c.args.b c.ranges.b.fits)),
)
