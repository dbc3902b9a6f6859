-- `squeeze` fills its buffer: before turn i it has the first i bytes that follow, and the hash has drawn them.
use mathlib.Core.Path.{◌≡◌, refl, sym, ap₂, ◌∙◌}
use mathlib.Core.List.{List}
use Prim.Native.Nat.{ℕ, ◌+◌, ◌%◌, ◌≤◌, ◌<◌}
use native.Mathlib.Nat.{add-zero, add_assoc}
use native.Mathlib.Omega.{arith}
use lib.ListN.{length}
use Rattle.hashing.specs.inner.Parts.{overwritten}
use Rattle.hashing.specs.inner.Running.{drawn}
use Rattle.hashing.proofs.Lists.{tab_ext, filled_none, filled_all}
use Rattle.hashing.proofs.lanes.Laws.{at_once_fits, filled_part}
use Rattle.hashing.proofs.sponge.Absorbing.{held}
use Rattle.hashing.proofs.sponge.Squeezing.{following, ready, same_block, next-block, ready_byte, ready_drawn, sponge-next}
use Rattle.hashing.proofs.sponge.squeeze.Goals as goal
use Rattle.hashing.proofs.sponge.squeeze.Goals.{After-at_once-n, Joined-place-rate, then-place-rate, else-place-rate}

-- after the `if` the block of the next byte is at hand
joined : (c : Joined-place-rate) →
    let was = c.loop-i in
    let rate = c.args.rate in
    (c.if-place-rate.place < rate)
    × ((suffix : ℕ) (M : List ℕ) (n : ℕ) → held was.lanes was.place ≡ drawn rate suffix M n
    → held c.if-place-rate.lanes c.if-place-rate.place ≡ ready rate suffix M n)
joined c =
    elim c.if-place-rate.branch [
      | then-place-rate w ↦ (
        omega arith,
        λ suffix M n e.
            rw (w.lanes-is, w.place-is, w.permute-lanes.ensures)
            (next-block _ (omega arith) suffix M n e w.if-place-rate.true),
      )
      | else-place-rate w ↦ (omega arith, λ suffix M n e. rw (w.lanes-is, w.place-is) (same_block _ (omega arith) suffix M n e (omega arith)))
    ]

-- the turn's bytes end with their lane
fits : (c : After-at_once-n) → (0 < c.at_once-n.result) × (c.if-place-rate.place % 8 + c.at_once-n.result ≤ 8)
fits c = at_once_fits (c.if-place-rate.place % 8) c.at_once-n.result (omega arith) c.at_once-n.ensures.0

pub loop-i-preserved : goal.loop-i-preserved
loop-i-preserved c =
    let was = c.loop-i in
    let given = c.args in
    let count = c.at_once-n.result in
    let next-at = joined (goal.at.loop-i-preserved c).Joined-place-rate in
    let lane-ends = fits (goal.at.loop-i-preserved c).After-at_once-n in
    let long : length c.lay.new.out ≡ length given.out.now = c.lay.auto.out ∙ was.invariant.1 in (
      omega arith,
      long,
      omega arith,
      λ suffix M n e.
          let so_far = was.invariant.3 suffix M n e in
          let next = next-at.1 suffix M (n + was.i) so_far.1 in (
            c.lay.ensures
                ∙ ap₂ (overwritten was.i) (tab_ext count _ (λ m. following given.rate suffix M n (was.i + m)) (λ m h. rw (← add_assoc) (ready_byte given.rate suffix M (n + was.i) next m (omega arith) (omega arith)))) so_far.0
                ∙ filled_part was.i count (following given.rate suffix M n) given.out.now (omega arith),
            rw (← add_assoc) (ready_drawn given.rate suffix M (n + was.i) next count lane-ends.0 (omega arith)),
          ),
    )

pub returns : goal.returns
returns c =
    let was = c.loop-i in
    let given = c.args in
    let all : was.i ≡ length was.out = omega arith in
    record {
      within = omega arith;
      gives = λ suffix M n e.
          rw (← all)
          ((was.invariant.3 suffix M n e).0
          ∙ filled_all was.i (following given.rate suffix M n) given.out.now (omega arith)
          ∙ sym (sponge-next given.rate (omega arith) suffix M n was.i));
      goes_on = λ suffix M n e. rw all at (was.invariant.3 suffix M n e).1;
    }

pub loop-i-init : goal.loop-i-init
loop-i-init c = (omega arith, refl, omega arith, λ suffix M n e. (filled_none _ _, rw add-zero e))
