-- What more bytes change of records that come in turn: nothing, but the number of a record whose stated length runs past
-- the bytes at hand. Assumes nothing.
use mathlib.Core.Path.{◌≡◌, refl, sym, ap, ◌∙◌}
use mathlib.Core.Bool.{Bool, true, false, not, ◌||◌, false≢true}
use mathlib.Core.List.{List, [], ◌∷◌, ◌++◌}
use Prim.Native.Nat.{ℕ, zero, suc, ◌+◌, ◌*◌, ◌-◌, ◌/◌, ◌%◌, ◌≤◌, ◌<◌}
use native.Mathlib.Decide.{dec_lt}
use native.Mathlib.Omega.{arith}
use Rattle.std.proofs.Common.{Result, Ok, Err}
use lib.Dec.{eqb, ltb, lit<}
use lib.ListN.{length, get_or, drop, length-append, length-drop}
use lib.Seq.{take-append-le, drop-append-le}
use borrow.Author.Tests.{lt-ltb, le-ltb, ltb-true, ltb-false, eq-eqb, ne_eqb, eqb-true, not-false}
use Rattle.hashing.specs.Answers.{differs, first_of}
use Rattle.hashing.proofs.Answers.{agree, clear}
use Rattle.ring.specs.Levels.{level_of, message_bytes, seed_bytes, poly_bytes, ciphertext_bytes, private_bytes}
use Rattle.ring.proofs.Bools.{both_false}
use Rattle.ring.proofs.Levels.{sizes}
use Rattle.exchange.specs.Records.{body_of, kind_of, body_bytes, known_kind, record_reasons}
use Rattle.hashing.specs.declared.refusal.Refusal.TheVariants.{CutRecord, UnknownKind, WrongBody}
use Rattle.batch.specs.Report.{waited}
use Rattle.batch.specs.Stops.{number, stop}
use Rattle.batch.specs.Triples.{turn, turns}
use Rattle.batch.specs.declared.records.Fault.{Fault}
use Rattle.batch.specs.declared.stop.Stop.{Stop}
use Rattle.batch.specs.declared.stop.Stop.TheVariants.{OutOfTurn, Refused}
use Rattle.batch.specs.inner.Windows.{most_body, most_record, missing, too_long, beyond, stop_later, later}

pub ltb_same : (a b c d : ℕ) → (a < b → c < d) → (b ≤ a → d ≤ c) → ltb a b ≡ ltb c d
ltb_same a b c d below above = go (ltb a b) refl
  where
    go : (t : Bool) → ltb a b ≡ t → t ≡ ltb c d
    go true e = sym (lt-ltb c d (below (ltb-true a b e)))
    go false e = sym (le-ltb c d (above (ltb-false a b e)))

-- the longest body of any level
pub body_most : (level thing : ℕ) → body_bytes (level_of level) thing ≤ most_body
unfolding body_bytes
body_most level thing = go (thing - 1)
  where
    go : (i : ℕ) →
        let l = level_of level in
        get_or (seed_bytes ∷ poly_bytes l ∷ private_bytes l ∷ ciphertext_bytes l ∷ message_bytes ∷ message_bytes ∷ []) i 0 ≤ most_body
    go zero = omega arith
    go (suc zero) = omega (arith, (sizes level).r_most)
    go (suc (suc zero)) = omega (arith, (sizes level).d_most)
    go (suc (suc (suc zero))) = omega (arith, (sizes level).r_most)
    go (suc (suc (suc (suc zero)))) = omega arith
    go (suc (suc (suc (suc (suc zero))))) = omega arith
    go (suc (suc (suc (suc (suc (suc i)))))) = omega arith

-- the number of a record whose stated length no kind has
abbrev told_later : ℕ → ℕ → List ℕ → ℕ
told_later missing kind rest =
    elim (ltb (length rest) missing) [ true ↦ 7 | false ↦ elim (known_kind kind) [ true ↦ 9 | false ↦ 8 ] ]

-- a record whose head is at hand
module _ (xs rest : List ℕ) (head : 6 ≤ length xs) where
  pub body_stays : body_of (xs ++ rest) ≡ body_of xs
  unfolding body_of
  body_stays = let room : 4 ≤ length xs = omega (arith, head) in rw (take-append-le 4 xs rest room)

  pub kind_stays : kind_of (xs ++ rest) ≡ kind_of xs
  unfolding kind_of
  kind_stays =
      let room : 4 ≤ length xs = omega (arith, head) in
      let more : 2 ≤ length (drop 4 xs) = omega (arith, head, length-drop 4 xs) in
      rw (drop-append-le 4 xs rest room, take-append-le 2 (drop 4 xs) rest more)

  -- its body too: its form is told
  pub form_stays : 6 + body_of xs ≤ length xs → first_of (record_reasons (xs ++ rest)) ≡ first_of (record_reasons xs)
  unfolding record_reasons first_of
  form_stays whole =
      let all = length-append xs rest in
      let head' : 6 ≤ length (xs ++ rest) = omega (arith, all, head) in
      let body' : body_of xs ≤ length (xs ++ rest) - 6 = omega (arith, all, whole) in
      let body : body_of xs ≤ length xs - 6 = omega (arith, whole) in
      rw (
        body_stays,
        kind_stays,
        le-ltb (length (xs ++ rest)) 6 head',
        le-ltb (length xs) 6 head,
        le-ltb (length (xs ++ rest) - 6) (body_of xs) body',
        le-ltb (length xs - 6) (body_of xs) body,
      )

  -- and where a longer body is stated than any kind has, the rest tells it
  pub form_waits : length xs < 6 + body_of xs → most_body < body_of xs
      → first_of (record_reasons (xs ++ rest)) ≡ told_later (6 + body_of xs - length xs) (kind_of xs) rest
  unfolding record_reasons first_of differs
  form_waits cut long =
      let all = length-append xs rest in
      let head' : 6 ≤ length (xs ++ rest) = omega (arith, all, head) in
      let most = body_most (kind_of xs / 256) (kind_of xs % 256) in
      rw (
        body_stays,
        kind_stays,
        le-ltb (length (xs ++ rest)) 6 head',
        ltb_same (length (xs ++ rest) - 6) (body_of xs) (length rest) (6 + body_of xs - length xs)
            (λ below. omega (arith, all, head, below)) (λ above. omega (arith, all, head, cut, above)),
        ne_eqb (body_of xs) (body_bytes (level_of (kind_of xs / 256)) (kind_of xs % 256)) (λ same. omega (arith, most, long, same)),
      )
      (choice (ltb (length rest) (6 + body_of xs - length xs)) (known_kind (kind_of xs)))
    where
      choice : (t u : Bool) → ◌≡◌ {A = ℕ}
          (elim t [ true ↦ 7 | false ↦ elim (not u) [ true ↦ 8 | false ↦ 9 ] ])
          (elim t [ true ↦ 7 | false ↦ elim u [ true ↦ 9 | false ↦ 8 ] ])
      choice true u = refl
      choice false true = refl
      choice false false = refl

  -- a form that is told is not 7, and one that is cut is
  pub whole_not_7 : 6 + body_of xs ≤ length xs → eqb (number (stop (first_of (record_reasons xs)))) 7 ≡ false
  unfolding record_reasons first_of stop
  whole_not_7 whole =
      let body : body_of xs ≤ length xs - 6 = omega (arith, whole) in
      rw (le-ltb (length xs) 6 head, le-ltb (length xs - 6) (body_of xs) body)
      (other (not (known_kind (kind_of xs))) (differs (body_of xs) (body_bytes (level_of (kind_of xs / 256)) (kind_of xs % 256))))
    where
      other : (u v : Bool) → eqb (number (stop (elim u [ true ↦ 8 | false ↦ elim v [ true ↦ 9 | false ↦ 0 ] ]))) 7 ≡ false
      other true v = refl
      other false true = refl
      other false false = refl

  pub cut_is_7 : length xs < 6 + body_of xs → first_of (record_reasons xs) ≡ 7
  unfolding record_reasons first_of
  cut_is_7 cut =
      let body : length xs - 6 < body_of xs = omega (arith, head, cut) in
      rw (le-ltb (length xs) 6 head, lt-ltb (length xs - 6) (body_of xs) body)

-- ---- a record in its turn

unfoldable pub out_of_turn : ℕ → ℕ → List ℕ → Bool
out_of_turn thing level here = differs (kind_of here % 256) thing || differs (kind_of here / 256) level

unfoldable pub picked : ℕ → Bool → ℕ → Result ℕ Stop
picked n out end = elim (eqb n 0) [ true ↦ elim out [ true ↦ Err OutOfTurn | false ↦ Ok end ] | false ↦ Err (stop n) ]

pub turn_is : (thing level : ℕ) (bytes : List ℕ) (at : ℕ) → at < length bytes
    → turn thing level bytes at
    ≡ picked (first_of (record_reasons (drop at bytes))) (out_of_turn thing level (drop at bytes)) (at + 6 + body_of (drop at bytes))
unfolding turn picked out_of_turn
turn_is thing level bytes at more = rw (ne_eqb (length bytes) at (λ same. omega (arith, more, same)), turn)

module _ (xs rest : List ℕ) where
  abbrev pub turn_later : ℕ → Result ℕ Stop → Result ℕ Stop
  turn_later at (Ok end) = Ok end
  turn_later at (Err s) = Err (stop_later xs at rest s)

  picked_stays : (at n end : ℕ) (out : Bool) → eqb (number (stop n)) 7 ≡ false → picked n out end ≡ turn_later at (picked n out end)
  unfolding picked stop_later
  picked_stays at n end out told = go (eqb n 0) out
    where
      go : (z k : Bool) →
          let run : Result ℕ Stop = elim z [ true ↦ elim k [ true ↦ Err OutOfTurn | false ↦ Ok end ] | false ↦ Err (stop n) ] in
          run ≡ turn_later at run
      go true true = refl
      go true false = refl
      go false k = rw (stop_later, told)

  picked_waits : (at end : ℕ) (out : Bool)
      → picked (told_later (missing xs at) (kind_of (drop at xs)) rest) out end ≡ turn_later at (picked 7 out end)
  unfolding picked stop_later waited beyond too_long stop
  picked_waits at end out = go (ltb (length rest) (missing xs at)) (known_kind (kind_of (drop at xs)))
    where
      go : (t u : Bool)
          → picked (elim t [ true ↦ 7 | false ↦ elim u [ true ↦ 9 | false ↦ 8 ] ]) out end
          ≡ Err (elim t [ true ↦ Refused CutRecord | false ↦ elim u [ true ↦ Refused WrongBody | false ↦ Refused UnknownKind ] ])
      go true u = refl
      go false true = refl
      go false false = refl

  pub turn-later : (thing level at : ℕ) → at + most_record ≤ length xs
      → turn thing level (xs ++ rest) at ≡ turn_later at (turn thing level xs at)
  unfolding out_of_turn missing
  turn-later thing level at room =
      let here = drop at xs in
      let size = length-drop at xs in
      let head : 6 ≤ length here = omega (arith, room, size) in
      let more : at < length xs = omega (arith, room) in
      let more' : at < length (xs ++ rest) = omega (arith, room, length-append xs rest) in
      let joined : drop at (xs ++ rest) ≡ here ++ rest = drop-append-le at xs rest (omega (arith, room)) in
      rw (
        turn_is thing level (xs ++ rest) at more',
        turn_is thing level xs at more,
        joined,
        kind_stays here rest head,
        body_stays here rest head,
      )
      (go head (dec_lt (length here) (6 + body_of here)))
    where
      go : 6 ≤ length (drop at xs) → Dec (length (drop at xs) < 6 + body_of (drop at xs)) →
          let here = drop at xs in
          let out = differs (kind_of here % 256) thing || differs (kind_of here / 256) level in
          picked (first_of (record_reasons (here ++ rest))) out (at + 6 + body_of here)
          ≡ turn_later at (picked (first_of (record_reasons here)) out (at + 6 + body_of here))
      go head (yes cut) =
          let long : most_body < body_of (drop at xs) = omega (arith, cut, room, length-drop at xs) in
          rw (form_waits (drop at xs) rest head cut long, cut_is_7 (drop at xs) rest head cut) (picked_waits at _ _)
      go head (no told) =
          let whole : 6 + body_of (drop at xs) ≤ length (drop at xs) = omega arith in
          rw (form_stays (drop at xs) rest head whole) (picked_stays at _ _ _ (whole_not_7 (drop at xs) rest head whole))

-- ---- what a record that came in its turn says

unfoldable pub is_whole : {E : Type 0} → Result ℕ E → Bool
is_whole (Ok end) = true
is_whole (Err e) = false

end_of : {E : Type 0} → Result ℕ E → ℕ
end_of (Ok end) = end
end_of (Err e) = 0

picked_whole : (n there end : ℕ) (out : Bool) → picked n out there ≡ Ok end → (n ≡ 0) × (out ≡ false) × (end ≡ there)
unfolding picked is_whole end_of
picked_whole n there end out = go (eqb n 0) refl out
  where
    go : (z : Bool) → eqb n 0 ≡ z → (k : Bool)
        → ◌≡◌ {A = Result ℕ Stop} (elim z [ true ↦ elim k [ true ↦ Err OutOfTurn | false ↦ Ok there ] | false ↦ Err (stop n) ]) (Ok end)
        → (n ≡ 0) × (k ≡ false) × (end ≡ there)
    go true is true e = absurd (false≢true (ap is_whole e))
    go true is false e = (eqb-true n 0 is, refl, sym (ap end_of e))
    go false is k e = absurd (false≢true (ap is_whole e))

pub record Came (thing level : ℕ) (bytes : List ℕ) (at end : ℕ) : Type 0 where
  pub kind_known : known_kind (kind_of (drop at bytes)) ≡ true
  pub level_is : kind_of (drop at bytes) / 256 ≡ level
  pub ends : end ≡ at + 6 + body_bytes (level_of level) thing
  pub within : end ≤ length bytes

module _ (thing level : ℕ) (bytes : List ℕ) (at end : ℕ) where
  clear_came : at < length bytes → first_of (record_reasons (drop at bytes)) ≡ 0 → out_of_turn thing level (drop at bytes) ≡ false
      → end ≡ at + 6 + body_of (drop at bytes) → Came thing level bytes at end
  unfolding record_reasons out_of_turn
  clear_came more none turn there =
      let here = drop at bytes in
      let first = clear _ _ (lit< tt) none in
      let second = clear _ _ (lit< tt) first.1 in
      let size = agree _ _ (clear _ _ (lit< tt) second.1).0 in
      let both = both_false (differs (kind_of here % 256) thing) (differs (kind_of here / 256) level) turn in
      let thing_is = agree (kind_of here % 256) thing both.0 in
      let level_is = agree (kind_of here / 256) level both.1 in
      let sized : body_of here ≡ body_bytes (level_of level) thing = rw (level_is, thing_is) at size in
      let whole = both_false (ltb (length here) 6) (ltb (length here - 6) (body_of here)) first.0 in
      record {
        kind_known = not-false _ second.0;
        level_is = level_is;
        ends = there ∙ rw sized;
        within =
            omega (
              arith,
              there,
              length-drop at bytes,
              ltb-false (length here) 6 whole.0,
              ltb-false (length here - 6) (body_of here) whole.1,
            );
      }

  pub came : at ≤ length bytes → turn thing level bytes at ≡ Ok end → Came thing level bytes at end
  unfolding turn is_whole
  came before e = go (dec_lt at (length bytes))
    where
      go : Dec (at < length bytes) → Came thing level bytes at end
      go (yes more) =
          let is = picked_whole _ _ end _ (sym (turn_is thing level bytes at more) ∙ e) in
          clear_came more is.0 is.1 is.2
      go (no none) =
          let same : length bytes ≡ at = omega arith in
          absurd (false≢true (ap is_whole (rw (eq-eqb (length bytes) at same, turn) at e)))

-- ---- all records of a list

module _ (xs rest : List ℕ) (level : ℕ) where
  pub turns-later : (things : List ℕ) (at : ℕ) → at + length things * most_record ≤ length xs
      → turns things level (xs ++ rest) at ≡ later xs rest (turns things level xs at)
  unfolding turns later
  turns-later [] at room = refl
  turns-later (thing ∷ things) at room =
      let first : at + most_record ≤ length xs = omega (arith, room) in
      rw (turn-later xs rest thing level at first, turns) (go (turn thing level xs at) refl (turns-later things))
    where
      go : (run : Result ℕ Stop) → turn thing level xs at ≡ run
          → ((next : ℕ) → next + length things * most_record ≤ length xs → turns things level (xs ++ rest) next ≡ later xs rest (turns things level xs next))
          → ◌≡◌ {A = Result ℕ Fault}
          (elim (turn_later xs rest at run) [ Ok next ↦ turns things level (xs ++ rest) next | Err s ↦ Err (record { stop = s; from = at }) ])
          (later xs rest (elim run [ Ok next ↦ turns things level xs next | Err s ↦ Err (record { stop = s; from = at }) ]))
      go (Ok next) e more =
          let before : at ≤ length xs = omega (arith, room) in
          more next (omega (arith, room, (came thing level xs at next before e).ends, body_most level thing))
      go (Err s) e more = refl

-- the first of them, and those after it
pub record First (thing : ℕ) (things : List ℕ) (level : ℕ) (bytes : List ℕ) (at used : ℕ) : Type 0 where
  pub next : ℕ
  pub here : turn thing level bytes at ≡ Ok next
  pub after : turns things level bytes next ≡ Ok used

pub first_of_lem : (thing : ℕ) (things : List ℕ) (level : ℕ) (bytes : List ℕ) (at used : ℕ)
    → turns (thing ∷ things) level bytes at ≡ Ok used → First thing things level bytes at used
unfolding turns is_whole
first_of_lem thing things level bytes at used = go (turn thing level bytes at) refl
  where
    go : (run : Result ℕ Stop) → turn thing level bytes at ≡ run
        → ◌≡◌ {A = Result ℕ Fault} (elim run [ Ok next ↦ turns things level bytes next | Err s ↦ Err (record { stop = s; from = at }) ]) (Ok used)
        → First thing things level bytes at used
    go (Ok next) is e = record { next = next; here = is; after = e }
    go (Err s) is e = absurd (false≢true (ap is_whole e))

pub last_of : (level : ℕ) (bytes : List ℕ) (at used : ℕ) → turns [] level bytes at ≡ Ok used → at ≡ used
unfolding turns end_of
last_of level bytes at used e = ap end_of e
