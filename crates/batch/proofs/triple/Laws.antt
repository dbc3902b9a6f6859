-- What a look at the bytes at hand finds. Assumes nothing.
use mathlib.Core.Path.{◌≡◌, refl, sym, ap, ◌∙◌}
use mathlib.Core.Bool.{Bool, true, false, false≢true, true≢false}
use mathlib.Core.List.{List, [], ◌∷◌, ◌++◌, append-nil}
use Prim.Native.Nat.{ℕ, ◌+◌, ◌*◌, ◌-◌, ◌≤◌, ◌<◌}
use native.Mathlib.Decide.{dec_lt}
use native.Mathlib.Omega.{arith}
use borrow.Author.Tests.{lt-ltb, eq-eqb, ne_eqb}
use Rattle.std.proofs.Common.{Result, Ok, Err}
use lib.Dec.{eqb}
use lib.ListN.{length, drop, length-drop}
use Rattle.hashing.specs.Answers.{first_of}
use Rattle.ring.specs.Levels.{level_of}
use Rattle.exchange.specs.Records.{body_of, record_reasons}
use Rattle.batch.specs.Report.{waited}
use Rattle.batch.specs.Triples.{turn, turns, triple, level_in, contents, judged}
use Rattle.hashing.specs.declared.refusal.Refusal.TheVariants.{CutRecord}
use Rattle.batch.specs.Stops.{number, stop}
use Rattle.batch.specs.declared.contents.Gain.{Gain}
use Rattle.batch.specs.declared.stop.Stop.{Stop}
use Rattle.batch.specs.declared.stop.Stop.TheVariants.{OutOfTurn, Refused}
use Rattle.batch.specs.declared.records.Fault.{Fault}
use Rattle.batch.specs.declared.triple.Look.{Look}
use Rattle.batch.specs.declared.triple.Look.TheVariants.{Known, Waits}
use Rattle.batch.specs.inner.Windows.{enough, most_record, beyond, stop_later, Within}
use Rattle.batch.proofs.Stops.{known_by}
use Rattle.batch.proofs.Judging.{told, judged_by, judged_stays, judged-later}
use Rattle.batch.proofs.Turns.{body_most, whole_not_7, picked, turn_is, came, is_whole}
use Rattle.batch.proofs.contents.Laws.{FewIn, contents_few}

-- ---- a 7 where all the records have room: its record's head is at hand, and its length runs past the bytes

pub record Past (bytes : List ℕ) (from : ℕ) : Type 0 where
  pub head : from + 6 ≤ length bytes
  pub past : length bytes < from + 6 + body_of (drop from bytes)

number_of : Result ℕ Stop → ℕ
number_of (Ok end) = 0
number_of (Err s) = number s

fault_of : Fault → Result ℕ Fault → Fault
fault_of other (Ok end) = other
fault_of other (Err fault) = fault

module _ (level : ℕ) (bytes : List ℕ) where
  turn_past : (thing at : ℕ) → at + most_record ≤ length bytes → number_of (turn thing level bytes at) ≡ 7 → Past bytes at
  unfolding picked number_of
  turn_past thing at room e =
      let more : at < length bytes = omega (arith, room) in
      go (picked_7 _ _ _ (rw (turn_is thing level bytes at more) at e)) (dec_lt (length (drop at bytes)) (6 + body_of (drop at bytes)))
    where
      size : length (drop at bytes) ≡ length bytes - at
      size = length-drop at bytes

      picked_7 : (n end : ℕ) (out : Bool) → number_of (picked n out end) ≡ 7 → number (stop n) ≡ 7
      picked_7 n end out = cases (eqb n 0) out
        where
          cases : (z k : Bool)
              → number_of (elim z [ true ↦ elim k [ true ↦ Err OutOfTurn | false ↦ Ok end ] | false ↦ Err (stop n) ]) ≡ 7
              → number (stop n) ≡ 7
          cases true true seven = absurd (omega (arith, seven))
          cases true false seven = absurd (omega (arith, seven))
          cases false k seven = seven

      go : number (stop (first_of (record_reasons (drop at bytes)))) ≡ 7
          → Dec (length (drop at bytes) < 6 + body_of (drop at bytes)) → Past bytes at
      go seven (yes cut) = record { head = omega (arith, room); past = omega (arith, room, size, cut) }
      go seven (no told) =
          let head : 6 ≤ length (drop at bytes) = omega (arith, room, size) in
          let whole : 6 + body_of (drop at bytes) ≤ length (drop at bytes) = omega arith in
          absurd (false≢true (sym (whole_not_7 (drop at bytes) [] head whole) ∙ eq-eqb _ 7 seven))

  pub turns_past : (things : List ℕ) (at : ℕ) (fault : Fault) → at + length things * most_record ≤ length bytes
      → turns things level bytes at ≡ Err fault → number fault.stop ≡ 7 → Past bytes fault.from
  unfolding turns is_whole number_of fault_of
  turns_past [] at fault room e seven = absurd (true≢false (ap is_whole e))
  turns_past (thing ∷ things) at fault room e seven = go (turn thing level bytes at) refl e (turns_past things)
    where
      go : (run : Result ℕ Stop) → turn thing level bytes at ≡ run
          → ◌≡◌ {A = Result ℕ Fault} (elim run [ Ok next ↦ turns things level bytes next | Err s ↦ Err (record { stop = s; from = at }) ]) (Err fault)
          → ((next : ℕ) (fault : Fault) → next + length things * most_record ≤ length bytes → turns things level bytes next ≡ Err fault
          → number fault.stop ≡ 7 → Past bytes fault.from)
          → Past bytes fault.from
      go (Ok next) is e more =
          let before : at ≤ length bytes = omega (arith, room) in
          more next fault (omega (arith, room, (came thing level bytes at next before is).ends, body_most level thing)) e seven
      go (Err s) is e more =
          let same : ◌≡◌ {A = Fault} (record { stop = s; from = at }) fault = ap (fault_of fault) e in
          let here : number_of (turn thing level bytes at) ≡ 7 = ap number_of is ∙ ap (λ (f : Fault). number f.stop) same ∙ seven in
          rw (← same) (turn_past thing at (omega (arith, room)) here)

-- ---- fewer than six bytes are a cut record

pub cut_stops : (bytes : List ℕ) → 0 < length bytes → length bytes < 6 → judged bytes ≡ Err (Refused CutRecord)
unfolding triple turns picked told record_reasons first_of stop
cut_stops bytes some few =
    judged_by bytes (Err (record { stop = Refused CutRecord; from = 0 }))
    (rw (turn_is 3 (level_in bytes) bytes 0 some, cut, turns, picked) (ap (λ (n : ℕ). Err (record { stop = stop n; from = 0 })) cut))
  where
    cut : first_of (record_reasons (drop 0 bytes)) ≡ 7
    cut = rw (lt-ltb (length (drop 0 bytes)) 6 few)

-- ---- what a look means, whatever comes after it

module _ (bytes : List ℕ) (ended : Bool) (room : ended ≡ false → enough ≤ length bytes) where
  abbrev pub Means : (List ℕ → Result Gain Stop) → Type 0
  Means told = (rest : List ℕ) → (ended ≡ true → rest ≡ []) → judged (bytes ++ rest) ≡ told rest

  by_end : {told : List ℕ → Result Gain Stop} → (ended ≡ true → judged bytes ≡ told [])
      → (ended ≡ false → (rest : List ℕ) → judged (bytes ++ rest) ≡ told rest) → Means told
  by_end {told} last more rest none = go ended refl
    where
      go : (t : Bool) → ended ≡ t → judged (bytes ++ rest) ≡ told rest
      go true e = rw (none e) (ap judged (append-nil bytes) ∙ last e)
      go false e = more e rest

  pub short_means : 0 < length bytes → length bytes < 6 → Means (λ rest. Err (Refused CutRecord))
  short_means some few = by_end (λ _. cut_stops bytes some few) (λ e rest. absurd (omega (arith, room e, few)))

  pub whole_means : (used : ℕ) → turns triple (level_in bytes) bytes 0 ≡ Ok used → Means (λ rest. told bytes (Ok used))
  whole_means used is =
      let here = judged_by bytes (Ok used) is in
      by_end (λ _. here) (λ e rest. judged_stays bytes rest (room e) used is ∙ here)

  module _ (fault : Fault) (is : turns triple (level_in bytes) bytes 0 ≡ Err fault) where
    -- nothing that comes may change it
    pub fault_means : (ended ≡ false → fault.stop ≡ Refused CutRecord → ⊥) → Means (λ rest. Err fault.stop)
    unfolding told stop_later
    fault_means other =
        by_end (λ _. judged_by bytes (Err fault) is)
        (λ e rest.
        let no_7 : eqb (number fault.stop) 7 ≡ false = ne_eqb _ 7 (λ seven. other e (known_by fault.stop (Refused CutRecord) seven)) in
        judged-later bytes rest (room e) fault is ∙ rw (stop_later, no_7))

    -- a 7 that may change
    module _ (cut : fault.stop ≡ Refused CutRecord) (more : ended ≡ false) where
      pub open_means : Means (λ rest. Err (waited (beyond bytes fault.from) rest))
      unfolding stop_later
      open_means rest none = judged-later bytes rest (room more) fault is ∙ rw cut

      pub open_past : Past bytes fault.from
      unfolding triple
      open_past = turns_past (level_in bytes) bytes triple 0 fault (omega (arith, room more)) is (ap number cut)

-- ---- a gain is of the bytes at hand, and small

known_in : Look → Result Gain Stop
known_in (Known judged) = judged
known_in (Waits wait) = Err wait.stop

pub contents_within : (level : ℕ) (key h m : List ℕ) (used n : ℕ) → 0 < used → used ≤ n → Within n (Known (contents (level_of level) key h m used))
unfolding known_in FewIn
contents_within level key h m used n some fits gain e =
    let few = rw (ap known_in e) at (contents_few level key h m used) in
    (omega (arith, some, few.0), omega (arith, fits, few.0), few.1, few.2)
