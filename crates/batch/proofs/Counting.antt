-- A running count, over bytes at hand and those that still come. Assumes nothing.
use mathlib.Core.Path.{◌≡◌}
use mathlib.Core.List.{List, ◌++◌}
use Prim.Native.Nat.{ℕ, suc, ◌+◌, ◌-◌, ◌≤◌, ◌<◌}
use native.Mathlib.Omega.{arith}
use borrow.Author.Tests.{le-ltb, eq-eqb, ne_eqb}
use Rattle.std.proofs.Common.{Ok, Err}
use lib.ListN.{length, drop, length-append}
use lib.Seq.{drop-append-le}
use Rattle.batch.specs.Report.{most_triples, added, over, count_from, waited, resume}
use Rattle.batch.specs.Triples.{judged}
use Rattle.batch.specs.declared.contents.Gain.{Gain}
use Rattle.batch.specs.declared.stop.Stop.{Stop}
use Rattle.batch.specs.declared.stop.Pending.{Pending}
use Rattle.batch.specs.declared.totals.Going.TheVariants.{On, Waiting, Ended, Stopped}
use Rattle.batch.specs.declared.totals.Totals.{Totals}
use Rattle.batch.proofs.Turns.{ltb_same}

-- a count that goes on, by the triple at the front
module _ (totals : Totals) (bytes : List ℕ) where
  pub count_full : totals.triples ≡ most_triples → resume (over totals On) bytes ≡ over totals Ended
  unfolding resume count_from
  count_full full = let none : most_triples - totals.triples ≡ 0 = omega (arith, full) in rw none

  one_more : totals.triples < most_triples → most_triples - totals.triples ≡ suc (most_triples - (totals.triples + 1))
  one_more few = omega (arith, few)

  pub count_empty : length bytes ≡ 0 → totals.triples < most_triples → resume (over totals On) bytes ≡ over totals Ended
  unfolding resume count_from
  count_empty none few = rw (one_more few, eq-eqb (length bytes) 0 none, count_from)

  pub count_gains : (gain : Gain) → 0 < length bytes → totals.triples < most_triples → judged bytes ≡ Ok gain
      → resume (over totals On) bytes ≡ resume (over (added totals gain) On) (drop gain.used bytes)
  unfolding resume count_from added
  count_gains gain some few is =
      let more : length bytes ≡ 0 → ⊥ = λ none. omega (arith, some, none) in
      rw (one_more few, ne_eqb (length bytes) 0 more, is, count_from)

  pub count_stops : (stop : Stop) → 0 < length bytes → totals.triples < most_triples → judged bytes ≡ Err stop
      → resume (over totals On) bytes ≡ over totals (Stopped stop)
  unfolding resume count_from
  count_stops stop some few is =
      let more : length bytes ≡ 0 → ⊥ = λ none. omega (arith, some, none) in
      rw (one_more few, ne_eqb (length bytes) 0 more, is, count_from)

-- the same over a window, whatever comes after it
module _ (totals : Totals) (xs rest : List ℕ) (some : 0 < length xs) (few : totals.triples < most_triples) where
  more : 0 < length (xs ++ rest)
  more = omega (arith, some, length-append xs rest)

  pub window_gains : (gain : Gain) → judged (xs ++ rest) ≡ Ok gain → gain.used ≤ length xs
      → resume (over totals On) (xs ++ rest) ≡ resume (over (added totals gain) On) (drop gain.used xs ++ rest)
  window_gains gain is fits =
      rw (count_gains totals (xs ++ rest) gain more few is, drop-append-le gain.used xs rest fits)

  pub window_waits : (wait : Pending) → judged (xs ++ rest) ≡ Err (waited wait rest)
      → resume (over totals On) (xs ++ rest) ≡ resume (over totals (Waiting wait)) rest
  unfolding resume
  window_waits wait is = count_stops totals (xs ++ rest) _ more few is

-- one that waits
module _ (wait : Pending) (bytes rest : List ℕ) where
  pub wait_over : wait.missing ≤ length bytes → waited wait (bytes ++ rest) ≡ wait.stop
  unfolding waited
  wait_over come =
      let all : wait.missing ≤ length (bytes ++ rest) = omega (arith, come, length-append bytes rest) in
      rw (le-ltb (length (bytes ++ rest)) wait.missing all, waited)

  pub wait_more : length bytes < wait.missing
      → waited wait (bytes ++ rest) ≡ waited (record { missing = wait.missing - length bytes; stop = wait.stop }) rest
  unfolding waited
  wait_more few =
      let all = length-append bytes rest in
      rw (
        ltb_same (length (bytes ++ rest)) wait.missing (length rest) (wait.missing - length bytes)
            (λ below. omega (arith, all, below)) (λ above. omega (arith, all, few, above)),
        waited,
      )
