-- `faulty` hands a fault on, but for a cut record that the bytes to come may change.
use mathlib.Core.Path.{◌≡◌, sym, ◌∙◌}
use mathlib.Core.Bool.{false, true≢false}
use native.Mathlib.Omega.{arith}
use Rattle.std.proofs.Common.{rules}
use Rattle.hashing.specs.declared.refusal.Refusal.TheVariants.{CutRecord}
use Rattle.batch.specs.declared.stop.Stop.TheVariants.{Refused}
use Rattle.batch.specs.inner.Windows.{meant}
use Rattle.batch.proofs.triple.Laws.{fault_means, open_means, open_past}
use Rattle.batch.proofs.triple.faulty.Goals as goal
use Rattle.batch.proofs.triple.faulty.Goals.{Then-not-ended, else-eq-via-then-eq+else-not-ended, else-eq-via-else-eq}

is_cut : (c : Then-not-ended) → c.args.fault.stop ≡ Refused CutRecord
is_cut c = let h = c.if-eq.ensures in search rules

pub beyond-requires : goal.beyond-requires
beyond-requires c =
    let given = c.args in
    let cut = is_cut (goal.at.beyond-requires c).Then-not-ended in
    let past = open_past given.bytes.now given.ended c.requires.enough_in_bounds given.fault c.requires.bytes_value cut c.if-not-ended.true in
    (past.head, omega (arith, past.past))

pub returns-then-not-ended-clause-by_index : goal.returns-then-not-ended-clause-by_index
unfolding meant
returns-then-not-ended-clause-by_index c =
    let given = c.args in
    let cut = is_cut (goal.at.returns-then-not-ended-clause-by_index c).Then-not-ended in
    rw c.beyond.ensures
    (open_means given.bytes.now given.ended c.requires.enough_in_bounds given.fault c.requires.bytes_value cut c.if-not-ended.true)

pub returns-clause-by_index : goal.returns-clause-by_index
unfolding meant
returns-clause-by_index c =
    let given = c.args in
    let other : given.ended ≡ false → given.fault.stop ≡ Refused CutRecord → ⊥ = λ more cut. elim c.else-eq.branch [
      | else-eq-via-then-eq+else-not-ended w ↦ absurd (true≢false (sym w.if-not-ended.false ∙ more))
      | else-eq-via-else-eq w ↦ let differ = w.if-eq.ensures in search rules
    ] in
    fault_means given.bytes.now given.ended c.requires.enough_in_bounds given.fault c.requires.bytes_value other
