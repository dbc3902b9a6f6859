-- One step of a count: whatever bytes still come, it comes to the same, and is nearer to its end. Assumes nothing.
use mathlib.Core.Path.{◌≡◌, refl, sym, ap, ◌∙◌}
use mathlib.Core.Bool.{Bool, true, false, true≢false}
use mathlib.Core.List.{List, [], ◌++◌}
use mathlib.Core.Logic.{◌⊎◌, inl, inr}
use Prim.Native.Nat.{ℕ, ◌-◌, ◌^◌, ◌≤◌, ◌<◌}
use native.Mathlib.Decide.{dec_lt}
use native.Mathlib.Omega.{arith}
use borrow.Author.Tests.{lt-ltb}
use Rattle.std.proofs.Common.{Result, Ok, Err}
use lib.ListN.{length, length-append}
use lib.Seq.{drop-length}
use Rattle.batch.specs.Promises.{Sound, goes_on, to_go}
use Rattle.batch.specs.Report.{most_triples, added, over, waited, resume}
use Rattle.batch.specs.Triples.{judged}
use Rattle.batch.specs.declared.contents.Gain.{Gain}
use Rattle.hashing.specs.declared.refusal.Refusal.TheVariants.{CutRecord}
use Rattle.batch.specs.declared.stop.Stop.{Stop}
use Rattle.batch.specs.declared.stop.Stop.TheVariants.{Refused}
use Rattle.batch.specs.declared.stop.Pending.{Pending}
use Rattle.batch.specs.declared.steps.Step.{Step}
use Rattle.batch.specs.declared.totals.Count.{Count}
use Rattle.batch.specs.declared.totals.Going.TheVariants.{On, Waiting, Ended, Stopped}
use Rattle.batch.specs.declared.totals.Totals.{Totals}
use Rattle.batch.specs.inner.Steps.{One, by_judged}
use Rattle.batch.specs.inner.Windows.{enough, Small}
use Rattle.batch.proofs.Counting.{count_full, count_empty, count_stops, window_gains, window_waits, wait_over, wait_more}
use Rattle.batch.proofs.Soundness.{added_sound}

abbrev step : Count → ℕ → Step
step count used = record { count = count; used = used }

-- a count that goes on
module _ (totals : Totals) (bytes : List ℕ) (ended : Bool) (sound : Sound totals) where
  nothing_more : (t : Bool) → (t ≡ false → enough ≤ length bytes) → length bytes ≡ 0 → t ≡ true
  nothing_more true room none = refl
  nothing_more false room none = absurd (omega (arith, room refl, none))

  pub end_step : (totals.triples ≡ most_triples) ⊎ (length bytes ≡ 0) → (ended ≡ false → enough ≤ length bytes)
      → One (over totals On) bytes ended (step (over totals Ended) 0)
  unfolding resume to_go
  end_step last room =
      record {
        goes = record { same = λ rest all. same rest all last (dec_lt totals.triples most_triples); within = omega arith; sound = sound };
        nearer = λ on. omega (arith, sound.few);
      }
    where
      same : (rest : List ℕ) → (ended ≡ true → rest ≡ []) → (totals.triples ≡ most_triples) ⊎ (length bytes ≡ 0)
          → Dec (totals.triples < most_triples) → resume (over totals On) (bytes ++ rest) ≡ over totals Ended
      same rest all (inl full) few = count_full totals (bytes ++ rest) full
      same rest all (inr none) (yes few) =
          let empty = all (nothing_more ended room none) in
          count_empty totals (bytes ++ rest) (omega (arith, length-append bytes rest, none, ap length empty)) few
      same rest all (inr none) (no many) = count_full totals (bytes ++ rest) (omega (arith, sound.few))

  module _ (some : 0 < length bytes) (few : totals.triples < most_triples) where
    pub known_step : (now : Result Gain Stop)
        → ((rest : List ℕ) → (ended ≡ true → rest ≡ []) → judged (bytes ++ rest) ≡ now)
        → ((gain : Gain) → now ≡ Ok gain → Small (length bytes) gain)
        → One (over totals On) bytes ended (by_judged totals now)
    unfolding by_judged added resume to_go
    known_step (Ok gain) is small =
        let fits = small gain refl in
        record {
          goes =
              record {
                same = λ rest all. window_gains totals bytes rest some few gain (is rest all) fits.1;
                within = fits.1;
                sound = added_sound totals gain sound few (fits.2, fits.3);
              };
          nearer = λ on. omega (arith, few);
        }
    known_step (Err stop) is small =
        record {
          goes = record { same = same; within = omega arith; sound = sound };
          nearer = λ on. omega (arith, few);
        }
      where
        same : (rest : List ℕ) → (ended ≡ true → rest ≡ [])
            → resume (over totals On) (bytes ++ rest) ≡ resume (over totals (Stopped stop)) (bytes ++ rest)
        same rest all = count_stops totals (bytes ++ rest) stop (omega (arith, some, length-append bytes rest)) few (is rest all)

    pub waits_step : (wait : Pending) → wait.missing < 2 ^ 64
        → ((rest : List ℕ) → (ended ≡ true → rest ≡ []) → judged (bytes ++ rest) ≡ Err (waited wait rest))
        → One (over totals On) bytes ended (step (over totals (Waiting wait)) (length bytes))
    unfolding to_go
    waits_step wait fits is =
        record {
          goes =
              record {
                same = λ rest all. rw (drop-length bytes) (window_waits totals bytes rest some few wait (is rest all));
                within = omega arith;
                sound = sound;
              };
          nearer = λ on. omega (arith, few, fits);
        }

wait_none : (wait : Pending) → 0 < wait.missing → waited wait [] ≡ Refused CutRecord
unfolding waited
wait_none wait more = rw (lt-ltb 0 wait.missing more, waited)

-- a count that waits
module _ (totals : Totals) (wait : Pending) (bytes : List ℕ) (ended : Bool) (sound : Sound totals) where
  abbrev pub left : Pending
  left = record { missing = wait.missing - length bytes; stop = wait.stop }

  pub come_step : wait.missing ≤ length bytes
      → One (over totals (Waiting wait)) bytes ended (step (over totals (Stopped wait.stop)) (length bytes))
  unfolding resume to_go
  come_step come =
      record {
        goes =
            record {
              same = λ rest all. ap (λ (stop : Stop). over totals (Stopped stop)) (wait_over wait bytes rest come);
              within = omega arith;
              sound = sound;
            };
        nearer = λ on. omega arith;
      }

  pub cut_step : length bytes < wait.missing → ended ≡ true
      → One (over totals (Waiting wait)) bytes ended (step (over totals (Stopped (Refused CutRecord))) (length bytes))
  unfolding resume to_go
  cut_step few last =
      record {
        goes =
            record {
              same = λ rest all. ap (λ (stop : Stop). over totals (Stopped stop)) (cut rest (all last));
              within = omega arith;
              sound = sound;
            };
        nearer = λ on. omega arith;
      }
    where
      cut : (rest : List ℕ) → rest ≡ [] → waited wait (bytes ++ rest) ≡ Refused CutRecord
      cut rest empty = wait_more wait bytes rest few ∙ rw empty (wait_none left (omega (arith, few)))

  pub more_step : length bytes < wait.missing → 0 < length bytes
      → One (over totals (Waiting wait)) bytes ended (step (over totals (Waiting left)) (length bytes))
  unfolding resume to_go
  more_step few some =
      record {
        goes =
            record {
              same = λ rest all. rw (drop-length bytes) (ap (λ (stop : Stop). over totals (Stopped stop)) (wait_more wait bytes rest few));
              within = omega arith;
              sound = sound;
            };
        nearer = λ on. omega (arith, few, some);
      }

-- a count that has ended stays as it is
pub rest_step : (count : Count) (bytes : List ℕ) (ended : Bool) → Sound count.totals → goes_on count ≡ false
    → One count bytes ended (step count 0)
rest_step count bytes ended sound off =
    record {
      goes = record { same = λ rest all. refl; within = omega arith; sound = sound };
      nearer = λ on. absurd (true≢false (sym on ∙ off));
    }
