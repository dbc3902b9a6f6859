-- A session: records that come one after another, from a last counter of 0. Assumes nothing.
use mathlib.Core.Path.{◌≡◌, refl, sym, ap, ◌∙◌}
use mathlib.Core.List.{List, [], ◌∷◌, ◌++◌}
use Prim.Native.Nat.{ℕ, ◌≤◌, ◌<◌}
use native.Mathlib.Nat.{le_refl, le_trans}
use native.Mathlib.Decide.{ℕ_discrete}
use native.Mathlib.Omega.{arith}
use borrow.Author.Tests.{eq-eqb, le-leb}
use lib.ListN.{length}
use Rattle.hashing.specs.Answers.{differs, first_of}
use Rattle.maps.specs.Promises.{AcceptMapPromise, meant_reasons, accepting_reasons, accept_map_says}
use Rattle.maps.specs.Session.{InForm, GoesIn, Controller, new_session, kept_in, next, after, session}
use Rattle.maps.specs.Writes.{map_bytes, counter_in, map_in}
use Rattle.maps.proofs.Acceptance.{goes_in_exactly_if, refusal_keeps}
use Rattle.maps.proofs.Equal.{equal-same}
use Rattle.maps.proofs.Judged.{accepting_clear, accepting_none, in_form}
use Rattle.maps.proofs.Keeping.{goes_in, stays}
use Rattle.maps.proofs.Written.{map_long}

-- what holds of every later time
record Follows (now later : Controller) : Type 0 where
  not_below : now.last ≤ later.last
  map_stays : length now.map ≡ map_bytes → length later.map ≡ map_bytes

module _ (level : ℕ) (key : List ℕ) (kart : ℕ) where
  -- the counter never falls, and rises with each record that goes in
  pub rises : (now : Controller) (bytes : List ℕ) {r : ℕ} {stored : List ℕ} {counter : ℕ}
      → AcceptMapPromise level key kart bytes now.map now.last r stored counter → (now.last ≤ counter) × (r ≡ 0 → now.last < counter)
  rises now bytes {r} {stored} {counter} says = (go (ℕ_discrete r 0), above)
    where
      above : r ≡ 0 → now.last < counter
      above done =
          let is = goes_in_exactly_if level key kart bytes now.map now.last says in
          let inside = is.0 done in
          omega (arith, (is.1 inside).2, inside.above)

      go : Dec (r ≡ 0) → now.last ≤ counter
      go (yes done) = omega (arith, above done)
      go (no refused) = omega (arith, (refusal_keeps level key kart bytes now.map now.last says refused).1)

  -- what is kept after a record, and after a list of them
  next_in : (now : Controller) (bytes : List ℕ) → GoesIn level key kart bytes now.map now.last
      → next level key kart now bytes ≡ record { map = map_in bytes; last = counter_in bytes }
  unfolding next kept_in accept_map_says
  next_in now bytes is = ap kept_in (goes_in _ _ (accepting_none level key kart bytes now.map now.last is))

  next_out : (now : Controller) (bytes : List ℕ) → (first_of (accepting_reasons level key kart bytes (length now.map) now.last) ≡ 0 → ⊥)
      → next level key kart now bytes ≡ now
  unfolding next kept_in accept_map_says
  next_out now bytes refused = ap kept_in (stays _ _ refl refused)

  follows : (now : Controller) (bytes : List ℕ) → Follows now (next level key kart now bytes)
  follows now bytes = go (ℕ_discrete (first_of (accepting_reasons level key kart bytes (length now.map) now.last)) 0)
    where
      go : Dec (first_of (accepting_reasons level key kart bytes (length now.map) now.last) ≡ 0) → Follows now (next level key kart now bytes)
      go (yes none) =
          let is = accepting_clear level key kart bytes now.map now.last none in
          rw (next_in now bytes is) (record { not_below = omega (arith, is.above); map_stays = λ size. map_long bytes is.form.whole })
      go (no refused) = rw (next_out now bytes refused) (record { not_below = le_refl now.last; map_stays = λ size. size })

  all_follow : (now : Controller) (records : List (List ℕ)) → Follows now (after level key kart now records)
  unfolding after
  all_follow now [] = record { not_below = le_refl now.last; map_stays = λ size. size }
  all_follow now (bytes ∷ rest) =
      let one = follows now bytes in
      let more = all_follow (next level key kart now bytes) rest in
      record {
        not_below = le_trans one.not_below more.not_below;
        map_stays = λ size. more.map_stays (one.map_stays size);
      }

  pub never_falls : (now : Controller) (records : List (List ℕ)) → now.last ≤ (after level key kart now records).last
  never_falls now records = (all_follow now records).not_below

  -- a record that went in is below the counter of every later time
  again : (now later : Controller) (bytes : List ℕ) → GoesIn level key kart bytes now.map now.last
      → Follows (next level key kart now bytes) later → AcceptMapPromise level key kart bytes later.map later.last 13 later.map later.last
  unfolding accept_map_says meant_reasons first_of differs
  again now later bytes is since =
      let went = rw (next_in now bytes is) at since in
      let form = is.form in
      let known : InForm level key bytes later.map =
      record {
        level_known = form.level_known;
        key_size = form.key_size;
        map_size = went.map_stays (map_long bytes form.whole);
        whole = form.whole;
        kind = form.kind;
        body = form.body;
      } in
      let thirteen : first_of (accepting_reasons level key kart bytes (length later.map) later.last) ≡ 13 =
      in_form level key kart bytes later.map later.last known
      ∙ rw (equal-same is.tag, eq-eqb _ _ is.this_kart, le-leb _ _ went.not_below) in
      sym (stays _ _ (sym thirteen) (λ e. omega arith))

  after-append : (now : Controller) (first rest : List (List ℕ)) → after level key kart now (first ++ rest) ≡ after level key kart (after level key kart now first) rest
  unfolding after
  after-append now [] rest = refl
  after-append now (bytes ∷ first) rest = after-append (next level key kart now bytes) first rest

  -- a record that goes in is refused with 13 when it comes again, whatever came before and between
  pub never_twice : (map : List ℕ) (before between : List (List ℕ)) (bytes : List ℕ) {stored : List ℕ} {counter : ℕ} →
      let first = session level key kart map before in
      let later = session level key kart map (before ++ (bytes ∷ between)) in
      AcceptMapPromise level key kart bytes first.map first.last 0 stored counter
      → AcceptMapPromise level key kart bytes later.map later.last 13 later.map later.last
  unfolding session after
  never_twice map before between bytes says =
      let first = session level key kart map before in
      let is = (goes_in_exactly_if level key kart bytes first.map first.last says).0 refl in
      rw (after-append (record { map = map; last = new_session }) before (bytes ∷ between))
      (again first _ bytes is (all_follow (next level key kart first bytes) between))
