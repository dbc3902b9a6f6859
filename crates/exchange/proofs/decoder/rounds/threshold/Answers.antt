-- `threshold`: no number outgrows its type.
use mathlib.Core.Path.{◌≡◌, sym, ap, ◌∙◌}
use Prim.Native.Nat.{ℕ, ◌+◌, ◌*◌, ◌/◌, ◌<◌, max}
use native.Mathlib.Omega.{arith}
use Rattle.ring.specs.Levels.{Level}
use Rattle.ring.specs.inner.Rows.{row}
use Rattle.ring.proofs.Levels.{Bounds, bounds}
use Rattle.exchange.specs.decoder.Decoder.{threshold}
use Rattle.exchange.proofs.decoder.rounds.threshold.Goals as goal
use Rattle.exchange.proofs.decoder.rounds.threshold.Goals.{After-divided, After-level_of-l, After-max}

limits : (c : After-level_of-l) → Bounds (row c.level_of-l.result) c.args.s
limits c = rw c.level_of-l.ensures (bounds c.args.level c.args.s c.requires)

pub overflow_mul-l : goal.overflow_mul-l
unfolding row
overflow_mul-l c = omega (arith, (limits (goal.at.overflow_mul-l c).After-level_of-l).sum)

pub overflow_add-l : goal.overflow_add-l
unfolding row
overflow_add-l c = omega (arith, (limits (goal.at.overflow_add-l c).After-level_of-l).sum)

-- the quotient, by the row's own divisor
quotient : (c : After-divided) →
    let l = row c.level_of-l.result in
    c.divided.result ≡ (l.slope * c.args.s + l.offset) / l.divisor
unfolding row
quotient c =
    let l = row c.level_of-l.result in
    c.divided.ensures ∙ ap (λ (m : Level). (l.slope * c.args.s + l.offset) / m.divisor) (sym c.level_of-l.ensures)

small : (c : After-max) → Bounds (row c.level_of-l.result) c.args.s → (let l = row c.level_of-l.result in c.divided.result ≡ (l.slope * c.args.s + l.offset) / l.divisor) → c.max.result < 256
unfolding row
small c limits quotient = omega (arith, c.max.ensures, quotient, limits.most, limits.quotient)

pub overflow_cast-result : goal.overflow_cast-result
overflow_cast-result c = omega (arith, small (goal.at.overflow_cast-result c).After-max (limits (goal.at.overflow_cast-result c).After-level_of-l) (quotient (goal.at.overflow_cast-result c).After-divided))

pub returns : goal.returns
unfolding row threshold
returns c = (
  c.max.ensures ∙ ap (λ (q : ℕ). max q c.level_of-l.result.least) (quotient (goal.at.returns c).After-divided) ∙ ap (λ (l : Level). threshold l c.args.s) c.level_of-l.ensures,
  small (goal.at.returns c).After-max (limits (goal.at.returns c).After-level_of-l) (quotient (goal.at.returns c).After-divided),
)
