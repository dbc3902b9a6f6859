-- CR 8: the report of some bytes, and what a running count makes of those that still come. Assumes nothing.
use Rattle.std.specs.Prelude.{true, false, List, [], ◌∷◌, ℕ, zero, suc, ◌+◌, ◌-◌, ◌^◌, eqb, ltb, length, get_or, drop, set, Ok, Err, Some, None}
use Rattle.hashing.specs.declared.refusal.Refusal.TheVariants.{CutRecord}
use Rattle.batch.specs.declared.contents.Gain.{Gain}
use Rattle.batch.specs.declared.stop.Stop.{Stop}
use Rattle.batch.specs.declared.stop.Stop.TheVariants.{Refused}
use Rattle.batch.specs.declared.stop.Pending.{Pending}
use Rattle.batch.specs.declared.totals.Count.{Count}
use Rattle.batch.specs.declared.totals.Going.{Going}
use Rattle.batch.specs.declared.totals.Going.TheVariants.{On, Waiting, Ended, Stopped}
use Rattle.batch.specs.declared.totals.Totals.{Totals}
use Rattle.batch.specs.Triples.{judged}

-- "at most 2^32 of them"
abbrev pub most_triples : ℕ
most_triples = 2 ^ 32

unfoldable pub none : Totals
none = record { triples = 0; decoded = 0 ∷ 0 ∷ 0 ∷ 0 ∷ 0 ∷ 0 ∷ []; undecoded = 0; replaced = 0 }

-- "triples read, errors decoded .. after 0, 1, 2, 3, 4 and 5 rounds, not decoded, replaced positions in H": each is its
-- sum over the triples
unfoldable pub added : Totals → Gain → Totals
added totals gain =
    record {
      triples = totals.triples + 1;
      decoded = elim gain.rounds [ Some k ↦ set totals.decoded k (get_or totals.decoded k 0 + 1) | None ↦ totals.decoded ];
      undecoded = elim gain.rounds [ Some k ↦ totals.undecoded | None ↦ totals.undecoded + 1 ];
      replaced = totals.replaced + gain.replaced;
    }

abbrev pub over : Totals → Going → Count
over totals going = record { totals = totals; going = going }

-- "A refused or incomplete triple is not counted and ends the run": the triples at the front, `left` at most
unfoldable pub count_from : ℕ → Totals → List ℕ → Count
count_from zero totals bytes = over totals Ended
count_from (suc left) totals bytes =
    elim (eqb (length bytes) 0) [
      | true ↦ over totals Ended
      | false ↦ elim (judged bytes) [
        | Ok gain ↦ count_from left (added totals gain) (drop gain.used bytes)
        | Err stop ↦ over totals (Stopped stop)
      ]
    ]

unfoldable pub report : List ℕ → Count
report bytes = count_from most_triples none bytes

-- where a record's stated length runs past what is at hand: a cut record if fewer bytes come than are missing, else what
-- stops it then
unfoldable pub waited : Pending → List ℕ → Stop
waited wait bytes = elim (ltb (length bytes) wait.missing) [ true ↦ Refused CutRecord | false ↦ wait.stop ]

-- what a running count makes of the bytes that still come
unfoldable pub resume : Count → List ℕ → Count
resume count bytes =
    elim count.going [
      | On ↦ count_from (most_triples - count.totals.triples) count.totals bytes
      | Waiting wait ↦ over count.totals (Stopped (waited wait bytes))
      | Ended ↦ count
      | Stopped stop ↦ count
    ]
