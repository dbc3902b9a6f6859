-- The triple at the front of a window: with 16,384 bytes at hand, what comes later changes the number of an over-long
-- record alone. Assumes nothing.
use mathlib.Core.Path.{◌≡◌, sym, ap, ◌∙◌}
use mathlib.Core.Bool.{true}
use mathlib.Core.List.{List, [], ◌∷◌, ◌++◌}
use Prim.Native.Nat.{ℕ, ◌+◌, ◌*◌, ◌≤◌}
use native.Mathlib.Omega.{arith}
use Rattle.std.proofs.Common.{Result, Ok, Err}
use lib.ListN.{length, take, drop, length-drop}
use lib.Seq.{take-append-le, drop-append-le}
use Rattle.ring.specs.Levels.{known, level_of, message_bytes, poly_bytes, private_bytes}
use Rattle.ring.proofs.Bools.{both_true}
use Rattle.ring.proofs.Levels.{sizes}
use Rattle.exchange.specs.Records.{body_bytes, known_kind}
use Rattle.batch.specs.Triples.{turns, triple, level_in, key_in, public_in, message_in, contents, judged}
use Rattle.batch.specs.declared.contents.Gain.{Gain}
use Rattle.batch.specs.declared.records.Fault.{Fault}
use Rattle.batch.specs.declared.stop.Stop.{Stop}
use Rattle.batch.specs.inner.Windows.{enough, most_record, stop_later, later}
use Rattle.batch.proofs.Turns.{kind_stays, turns-later, came, first_of_lem, last_of}

-- a triple by the run of its records
unfoldable pub told : List ℕ → Result ℕ Fault → Result Gain Stop
told bytes (Ok used) =
    let l = level_of (level_in bytes) in contents l (key_in l bytes) (public_in l bytes) (message_in l bytes) used
told bytes (Err fault) = Err fault.stop

pub judged_by : (bytes : List ℕ) (run : Result ℕ Fault) → turns triple (level_in bytes) bytes 0 ≡ run → judged bytes ≡ told bytes run
unfolding judged told
judged_by bytes (Ok used) is = rw (is, judged)
judged_by bytes (Err fault) is = rw (is, judged)

module _ (xs rest : List ℕ) (room : enough ≤ length xs) where
  part_stays : (n k : ℕ) → k + n ≤ length xs → take n (drop k (xs ++ rest)) ≡ take n (drop k xs)
  part_stays n k fits =
      let start : k ≤ length xs = omega (arith, fits) in
      let size : n ≤ length (drop k xs) = omega (arith, fits, length-drop k xs) in
      rw (drop-append-le k xs rest start, take-append-le n (drop k xs) rest size)

  level_stays : level_in (xs ++ rest) ≡ level_in xs
  unfolding level_in
  level_stays = rw (kind_stays xs rest (omega (arith, room)))

  whole_stays : (used : ℕ) → told (xs ++ rest) (Ok used) ≡ told xs (Ok used)
  unfolding told key_in public_in message_in
  whole_stays used =
      let l = level_of (level_in xs) in
      let big = sizes (level_in xs) in
      let key : 6 + private_bytes l ≤ length xs = omega (arith, room, big.d_most) in
      let public : 12 + private_bytes l + poly_bytes l ≤ length xs = omega (arith, room, big.d_most, big.r_most) in
      let message : 18 + private_bytes l + poly_bytes l + message_bytes ≤ length xs = omega (arith, room, big.d_most, big.r_most) in
      rw (
        level_stays,
        part_stays (private_bytes l) 6 key,
        part_stays (poly_bytes l) (12 + private_bytes l) public,
        part_stays message_bytes (18 + private_bytes l + poly_bytes l) message,
      )

  run_later : turns triple (level_in (xs ++ rest)) (xs ++ rest) 0 ≡ later xs rest (turns triple (level_in xs) xs 0)
  unfolding triple
  run_later =
      let all : 0 + length triple * most_record ≤ length xs = omega (arith, room) in
      rw level_stays (turns-later xs rest (level_in xs) triple 0 all)

  -- a whole triple stays as it is
  pub judged_stays : (used : ℕ) → turns triple (level_in xs) xs 0 ≡ Ok used → judged (xs ++ rest) ≡ judged xs
  unfolding later
  judged_stays used is =
      judged_by (xs ++ rest) (Ok used) (run_later ∙ ap (later xs rest) is)
      ∙ whole_stays used
      ∙ sym (judged_by xs (Ok used) is)

  -- and a fault too, but for a 7
  pub judged-later : (fault : Fault) → turns triple (level_in xs) xs 0 ≡ Err fault
      → judged (xs ++ rest) ≡ Err (stop_later xs fault.from rest fault.stop)
  unfolding later told
  judged-later fault is =
      judged_by (xs ++ rest) _ (run_later ∙ ap (later xs rest) is)

-- the bytes of a whole triple
pub record WholeTriple (bytes : List ℕ) (used : ℕ) : Type 0 where
  pub level_known : known (level_in bytes) ≡ true
  pub size : used ≡ 18 + private_bytes (level_of (level_in bytes)) + poly_bytes (level_of (level_in bytes)) + message_bytes
  pub within : used ≤ length bytes

pub whole_triple : (bytes : List ℕ) (used : ℕ) → turns triple (level_in bytes) bytes 0 ≡ Ok used → WholeTriple bytes used
unfolding triple level_in body_bytes known_kind
whole_triple bytes used e =
    let level = level_in bytes in
    let private = first_of_lem 3 (2 ∷ 5 ∷ []) level bytes 0 used e in
    let public = first_of_lem 2 (5 ∷ []) level bytes private.next used private.after in
    let message = first_of_lem 5 [] level bytes public.next used public.after in
    let first = came 3 level bytes 0 private.next (omega arith) private.here in
    let second = came 2 level bytes private.next public.next first.within public.here in
    let third = came 5 level bytes public.next message.next second.within message.here in
    let end = last_of level bytes message.next used message.after in
    record {
      level_known = (both_true (known level) _ first.kind_known).0;
      size = omega (arith, first.ends, second.ends, third.ends, end);
      within = omega (arith, third.within, end);
    }
