-- `positions` draws to the front of its list.
use mathlib.Core.Path.{◌≡◌, sym, ap, ◌∙◌}
use Prim.Native.Nat.{ℕ, ◌≤◌}
use native.Mathlib.Omega.{arith}
use lib.ListN.{length, take, replicate}
use lib.Seq.{length-take-le, take-append-le}
use Rattle.exchange.specs.Fair.{drawn_for}
use Rattle.ring.proofs.Levels.{sizes}
use Rattle.ring.specs.inner.Sizes.{most_d}
use Rattle.exchange.proofs.Parts.{blank_long, blank_front}
use Rattle.exchange.proofs.fair.positions.Goals as goal
use Rattle.exchange.proofs.fair.positions.Goals.{After-key_weight-d}

-- the level's positions fit
cut : (c : After-key_weight-d) → length (take c.key_weight-d.result (replicate {A = ℕ} most_d 0)) ≡ c.key_weight-d.result
cut c = blank_front _ most_d (omega (arith, sizes c.args.level))

pub returns : goal.returns
unfolding drawn_for
returns c =
    let is = rw (cut (goal.at.returns c).After-key_weight-d, c.block.ensures, c.mask.ensures, c.key_weight-d.ensures) at c.draw-count.ensures in
    let long = c.draw-count.auto.list ∙ cut (goal.at.returns c).After-key_weight-d ∙ c.key_weight-d.ensures in
    let within : c.draw-count.result.listed ≤ length c.draw-count.new.list = omega (arith, long, is.2) in
    (take-append-le _ _ _ within ∙ is.0, sym (length-take-le _ _ within) ∙ ap length is.0, is.1)

pub overflow_cast-block : goal.overflow_cast-block
overflow_cast-block c = omega (arith, sizes c.args.level)

pub slice_bounds-list-end : goal.slice_bounds-list-end
slice_bounds-list-end c = omega (arith, sizes c.args.level, blank_long most_d)

pub slice_bounds-draw-end : goal.slice_bounds-draw-end
slice_bounds-draw-end c = sym (cut (goal.at.slice_bounds-draw-end c).After-key_weight-d)
