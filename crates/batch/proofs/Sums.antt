-- Each total is its sum over the triples. Assumes nothing.
use mathlib.Core.Path.{◌≡◌, refl, sym}
use mathlib.Core.Bool.{Bool, true, false}
use mathlib.Core.List.{List, [], ◌∷◌}
use Prim.Native.Nat.{ℕ, zero, suc, ◌+◌, ◌<◌}
use native.Mathlib.Decide.{ℕ_discrete}
use native.Mathlib.Omega.{arith}
use borrow.Author.Tests.{eq-eqb, ne_eqb}
use lib.Dec.{eqb}
use Rattle.std.proofs.Common.{Result, Ok, Err, Option, Some, None}
use lib.ListN.{length, get_or, set, drop, length-set}
use lib.Seq.{get_or-set_same, get_or-set_other}
use Rattle.batch.specs.Report.{most_triples, none, added, over, count_from, report}
use Rattle.batch.specs.Sums.{gains_of, sum, decoded_after, not_decoded, Sums}
use Rattle.batch.specs.Triples.{judged}
use Rattle.batch.specs.declared.contents.Gain.{Gain}
use Rattle.batch.specs.declared.stop.Stop.{Stop}
use Rattle.batch.specs.declared.totals.Count.{Count}
use Rattle.batch.specs.declared.totals.Going.TheVariants.{Ended, Stopped}
use Rattle.batch.specs.declared.totals.Totals.{Totals}
use Rattle.batch.proofs.Soundness.{none_sound}

-- what some gains add to totals
record Adds (totals : Totals) (gains : List Gain) (to : Totals) : Type 0 where
  triples_more : to.triples ≡ totals.triples + length gains
  decoded_more : (k : ℕ) → k < 6 → get_or to.decoded k 0 ≡ get_or totals.decoded k 0 + sum (decoded_after k) gains
  undecoded_more : to.undecoded ≡ totals.undecoded + sum not_decoded gains
  replaced_more : to.replaced ≡ totals.replaced + sum (λ gain. gain.replaced) gains

add_none : (totals : Totals) → Adds totals [] totals
unfolding sum
add_none totals =
    record {
      triples_more = omega arith;
      decoded_more = λ k below. omega arith;
      undecoded_more = omega arith;
      replaced_more = omega arith;
    }

module _ (totals : Totals) (gain : Gain) (six : length totals.decoded ≡ 6) where
  keeps_six : length (added totals gain).decoded ≡ 6
  unfolding added
  keeps_six = go gain.rounds
    where
      go : (rounds : Option ℕ)
          → length {A = ℕ} (elim rounds [ Some i ↦ set totals.decoded i (get_or totals.decoded i 0 + 1) | None ↦ totals.decoded ]) ≡ 6
      go None = six
      go (Some i) = simp length-set six

  decoded_more_lem : (k : ℕ) → k < 6 → get_or (added totals gain).decoded k 0 ≡ get_or totals.decoded k 0 + decoded_after k gain
  unfolding added decoded_after
  decoded_more_lem k below = go gain.rounds
    where
      other : (i : ℕ) → Dec (i ≡ k)
          → get_or (set totals.decoded i (get_or totals.decoded i 0 + 1)) k 0
          ≡ get_or totals.decoded k 0 + elim (eqb i k) [ true ↦ 1 | false ↦ 0 ]
      other i (yes same) =
          let inside : k < length totals.decoded = omega (arith, six, below) in
          rw (same, eq-eqb k k refl, get_or-set_same totals.decoded k (get_or totals.decoded k 0 + 1) 0 inside)
      other i (no differ) =
          rw (ne_eqb i k differ, get_or-set_other totals.decoded i k (get_or totals.decoded i 0 + 1) 0 (λ same. differ (sym same)))
          (omega arith)

      go : (rounds : Option ℕ)
          → get_or (elim rounds [ Some i ↦ set totals.decoded i (get_or totals.decoded i 0 + 1) | None ↦ totals.decoded ]) k 0
          ≡ get_or totals.decoded k 0 + elim rounds [ Some i ↦ elim (eqb i k) [ true ↦ 1 | false ↦ 0 ] | None ↦ 0 ]
      go None = omega arith
      go (Some i) = other i (ℕ_discrete i k)

  undecoded_more_lem : (added totals gain).undecoded ≡ totals.undecoded + not_decoded gain
  unfolding added not_decoded
  undecoded_more_lem = go gain.rounds
    where
      go : (rounds : Option ℕ)
          → elim rounds [ Some i ↦ totals.undecoded | None ↦ totals.undecoded + 1 ] ≡ totals.undecoded + elim rounds [ Some i ↦ 0 | None ↦ 1 ]
      go None = refl
      go (Some i) = omega arith

  add_one_more : (gains : List Gain) (to : Totals) → Adds (added totals gain) gains to → Adds totals (gain ∷ gains) to
  unfolding added sum
  add_one_more gains to more =
      record {
        triples_more = omega (arith, more.triples_more);
        decoded_more = λ k below. omega (arith, more.decoded_more k below, decoded_more_lem k below);
        undecoded_more = omega (arith, more.undecoded_more, undecoded_more_lem);
        replaced_more = omega (arith, more.replaced_more);
      }

count_adds : (left : ℕ) (totals : Totals) (bytes : List ℕ) → length totals.decoded ≡ 6
    → Adds totals (gains_of left bytes) (count_from left totals bytes).totals
unfolding count_from gains_of
count_adds zero totals bytes six = add_none totals
count_adds (suc left) totals bytes six = go (eqb (length bytes) 0) (judged bytes) (count_adds left)
  where
    go : (empty : Bool) (now : Result Gain Stop)
        → ((from : Totals) (rest : List ℕ) → length from.decoded ≡ 6 → Adds from (gains_of left rest) (count_from left from rest).totals)
        →
        let gains : List Gain = elim empty [ true ↦ [] | false ↦ elim now [ Ok gain ↦ gain ∷ gains_of left (drop gain.used bytes) | Err stop ↦ [] ] ] in
        let to : Count = elim empty [
          | true ↦ over totals Ended
          | false ↦ elim now [ Ok gain ↦ count_from left (added totals gain) (drop gain.used bytes) | Err stop ↦ over totals (Stopped stop) ]
        ] in
        Adds totals gains to.totals
    go true now more = add_none totals
    go false (Ok gain) more =
        add_one_more totals gain six (gains_of left (drop gain.used bytes)) _ (more (added totals gain) (drop gain.used bytes) (keeps_six totals gain six))
    go false (Err stop) more = add_none totals

pub report_sums : (bytes : List ℕ) → Sums (report bytes).totals (gains_of most_triples bytes)
unfolding report none
report_sums bytes =
    let all = count_adds most_triples none bytes refl in
    record {
      triples_sum = omega (arith, all.triples_more);
      decoded_sum = λ k below. omega (arith, all.decoded_more k below, none_sound.decoded_few k);
      undecoded_sum = omega (arith, all.undecoded_more);
      replaced_sum = omega (arith, all.replaced_more);
    }
