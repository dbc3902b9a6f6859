-- One step of a count, and several. No public promise cites this file. Assumes nothing.
use Rattle.std.specs.Prelude.{◌≡◌, Bool, true, false, List, [], ◌++◌, ℕ, ◌≤◌, ◌<◌, ◌-◌, length, drop, Result, Ok, Err, IfSome}
use Rattle.batch.specs.Promises.{Sound, goes_on, to_go}
use Rattle.batch.specs.Report.{added, over, resume}
use Rattle.batch.specs.declared.contents.Gain.{Gain}
use Rattle.batch.specs.declared.steps.Step.{Step}
use Rattle.batch.specs.declared.stop.Stop.{Stop}
use Rattle.batch.specs.declared.totals.Count.{Count}
use Rattle.batch.specs.declared.totals.Going.TheVariants.{On, Stopped}
use Rattle.batch.specs.declared.totals.Totals.{Totals}
use Rattle.batch.specs.inner.Windows.{enough}

-- too small to overflow a total
abbrev pub Light : Gain → Type 0
Light gain = IfSome gain.rounds (λ k. k < 6) × (gain.replaced ≤ 264)

unfoldable pub by_judged : Totals → Result Gain Stop → Step
by_judged totals (Ok gain) = record { count = over (added totals gain) On; used = gain.used }
by_judged totals (Err stop) = record { count = over totals (Stopped stop); used = 0 }

-- a step over bytes that are all that come if `ended`: whatever comes, the count comes to the same
pub record Goes (count : Count) (bytes : List ℕ) (ended : Bool) (to : Step) : Type 0 where
  pub same : (rest : List ℕ) → (ended ≡ true → rest ≡ []) → resume count (bytes ++ rest) ≡ resume to.count (drop to.used bytes ++ rest)
  pub within : to.used ≤ length bytes
  pub sound : Sound to.count.totals

pub record One (count : Count) (bytes : List ℕ) (ended : Bool) (to : Step) : Type 0 where
  pub goes : Goes count bytes ended to
  pub nearer : goes_on count ≡ true → to_go to.count < to_go count

-- steps until there is nothing more to do with these bytes
pub record Steps (count : Count) (bytes : List ℕ) (ended : Bool) (to : Step) : Type 0 where
  pub goes : Goes count bytes ended to
  pub wants : goes_on to.count ≡ true → (ended ≡ false) × (length bytes - to.used < enough)
  pub nearer : goes_on count ≡ true → (ended ≡ false → enough ≤ length bytes) → to_go to.count < to_go count
