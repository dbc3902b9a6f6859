-- CR 8, "Each total is its sum over the triples": `report_sums` of proofs/Sums.antt says it of every report. Assumes nothing.
use Rattle.std.specs.Prelude.{◌≡◌, true, false, List, [], ◌∷◌, ℕ, zero, suc, ◌+◌, ◌<◌, eqb, length, get_or, drop, Ok, Err, Some, None}
use Rattle.batch.specs.Triples.{judged}
use Rattle.batch.specs.declared.contents.Gain.{Gain}
use Rattle.batch.specs.declared.totals.Totals.{Totals}

-- the gains of the triples that are counted, `left` at most
unfoldable pub gains_of : ℕ → List ℕ → List Gain
gains_of zero bytes = []
gains_of (suc left) bytes =
    elim (eqb (length bytes) 0) [
      | true ↦ []
      | false ↦ elim (judged bytes) [ Ok gain ↦ gain ∷ gains_of left (drop gain.used bytes) | Err stop ↦ [] ]
    ]

unfoldable pub sum : (Gain → ℕ) → List Gain → ℕ
sum part [] = 0
sum part (gain ∷ gains) = part gain + sum part gains

-- the parts of a triple's gain: decoded after k rounds, not decoded
unfoldable pub decoded_after : ℕ → Gain → ℕ
decoded_after k gain = elim gain.rounds [ Some n ↦ elim (eqb n k) [ true ↦ 1 | false ↦ 0 ] | None ↦ 0 ]

unfoldable pub not_decoded : Gain → ℕ
not_decoded gain = elim gain.rounds [ Some n ↦ 0 | None ↦ 1 ]

pub record Sums (totals : Totals) (gains : List Gain) : Type 0 where
  pub triples_sum : totals.triples ≡ length gains
  pub decoded_sum : (k : ℕ) → k < 6 → get_or totals.decoded k 0 ≡ sum (decoded_after k) gains
  pub undecoded_sum : totals.undecoded ≡ sum not_decoded gains
  pub replaced_sum : totals.replaced ≡ sum (λ gain. gain.replaced) gains
