-- What is counted is the report of the whole input, however it was cut into reads. Assumes nothing.
use mathlib.Core.Path.{◌≡◌, refl, sym, ap, ◌∙◌}
use mathlib.Core.Bool.{false, true≢false}
use mathlib.Core.List.{List, [], ◌++◌, append_assoc}
use Prim.Native.Nat.{ℕ}
use Rattle.batch.specs.Promises.{goes_on}
use Rattle.batch.specs.Reading.{Read, stopped, turned}
use Rattle.batch.specs.Report.{none, over, report, resume}
use Rattle.batch.specs.declared.totals.Count.{Count}
use Rattle.batch.specs.declared.totals.Going.{Going}
use Rattle.batch.specs.declared.totals.Going.TheVariants.{On, Waiting, Ended, Stopped}
use Rattle.batch.specs.declared.totals.Totals.{Totals}

stays : (totals : Totals) (going : Going) (bytes : List ℕ) → goes_on (over totals going) ≡ false
    → resume (over totals going) bytes ≡ over totals going
unfolding goes_on resume
stays totals On bytes off = absurd (true≢false off)
stays totals (Waiting wait) bytes off = absurd (true≢false off)
stays totals Ended bytes off = refl
stays totals (Stopped stop) bytes off = refl

read_resumes : {count to : Count} {held input : List ℕ} → Read count held input to → resume count (held ++ input) ≡ to
read_resumes (stopped {count} held input off) = stays count.totals count.going (held ++ input) off
read_resumes (turned {count} {held = held} {input} piece window after have ended turn hand last turns more) =
    ap (resume count) (sym (append_assoc held piece input) ∙ ap (λ (bytes : List ℕ). bytes ++ input) (sym hand))
    ∙ turns.same input last
    ∙ read_resumes more

pub read_reports : (input : List ℕ) (to : Count) → Read (over none On) [] input to → to ≡ report input
unfolding report resume none
read_reports input to read = sym (read_resumes read)
