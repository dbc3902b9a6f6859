-- `absorb` goes on with the running hash: before a turn it is that of the message with the first i bytes.
use mathlib.Core.Path.{◌≡◌}
use mathlib.Core.List.{List, ◌++◌, append_assoc}
use Prim.Native.Nat.{ℕ, ◌+◌, ◌%◌, ◌<◌}
use native.Mathlib.Omega.{arith}
use lib.ListN.{take, get_or}
use Rattle.hashing.specs.Lists.{tab}
use Rattle.hashing.specs.inner.Running.{running}
use Rattle.hashing.proofs.lanes.Laws.{at_once_fits, taken_more}
use Rattle.hashing.proofs.sponge.Absorbing.{held, part_within, part_full}
use Rattle.hashing.proofs.sponge.absorb.Goals as goal
use Rattle.hashing.proofs.sponge.absorb.Goals.{After-at_once-n, Joined-place-rate, then-place-rate, else-place-rate}

-- after the `if` the hash has the turn's bytes more
joined : (c : Joined-place-rate) →
    let was = c.loop-i in
    let given = c.args in
    (c.if-place-rate.place < given.rate)
    × ((M : List ℕ) → held was.lanes was.place ≡ running given.rate M
    → held c.if-place-rate.lanes c.if-place-rate.place
    ≡ running given.rate (M ++ tab c.at_once-n.result (λ m. get_or given.bytes.now (was.i + m) 0)))
joined c =
    let within = at_once_fits (c.loop-i.place % 8) c.at_once-n.result (omega arith) c.at_once-n.ensures.0 in
    elim c.if-place-rate.branch [
      | then-place-rate w ↦ (
        omega arith,
        λ M e.
            rw (w.lanes-is, w.place-is, w.permute-lanes.ensures, c.part.ensures)
            (part_full _ (omega arith) M _ _ e within.1 w.if-place-rate.true),
      )
      | else-place-rate w ↦ (
        omega arith,
        λ M e. rw (w.lanes-is, w.place-is, c.part.ensures) (part_within _ (omega arith) M _ _ e within.1 (omega arith)),
      )
    ]

pub loop-i-preserved : goal.loop-i-preserved
loop-i-preserved c =
    let bytes = c.args.bytes.now in
    let n = c.at_once-n.result in (
      omega arith,
      (joined (goal.at.loop-i-preserved c).Joined-place-rate).0,
      λ M e.
          rw (← taken_more bytes c.loop-i.i n (omega arith), ← append_assoc)
          ((joined (goal.at.loop-i-preserved c).Joined-place-rate).1 (M ++ take c.loop-i.i bytes) (c.loop-i.invariant.2 M e)),
    )
