-- What it says that a judge finds nothing, in both directions. Assumes nothing.
use mathlib.Core.Path.{◌≡◌, ◌∙◌}
use mathlib.Core.Bool.{true}
use mathlib.Core.List.{List}
use Prim.Native.Nat.{ℕ, ◌-◌, ◌≤◌}
use native.Mathlib.Omega.{arith}
use borrow.Author.Tests.{eq-eqb, not-false, ltb-false, leb-false, le-ltb, lt-leb}
use lib.Dec.{lit<, ltb}
use lib.ListN.{length}
use Rattle.hashing.specs.Answers.{differs, first_of}
use Rattle.hashing.proofs.Answers.{Numbered, agree, clear, all_clear, first_after}
use Rattle.ring.specs.Levels.{known, message_bytes}
use Rattle.ring.proofs.Bools.{both_false}
use Rattle.exchange.specs.Records.{body_of, kind_of}
use Rattle.maps.specs.Promises.{writing_reasons, form_reasons, meant_reasons, accepting_reasons}
use Rattle.maps.specs.Session.{InForm, GoesIn}
use Rattle.maps.specs.Writes.{map_bytes, map_body, record_bytes, map_kind}
use Rattle.maps.proofs.Equal.{equal_true, equal-same}

-- the writer
pub record WritingClear (level : ℕ) (key map : List ℕ) (room : ℕ) : Type 0 where
  pub level_known : known level ≡ true
  pub key_size : length key ≡ message_bytes
  pub map_size : length map ≡ map_bytes
  pub room_is : room ≡ record_bytes

module _ {level : ℕ} {key map : List ℕ} {room : ℕ} where
  pub writing_clear : first_of (writing_reasons level key map room) ≡ 0 → WritingClear level key map room
  unfolding writing_reasons
  writing_clear none =
      let first = clear _ _ (lit< tt) none in
      let second = clear _ _ (lit< tt) first.1 in
      let one = both_false _ _ second.0 in
      let zero = both_false _ _ one.0 in
      record {
        level_known = not-false _ first.0;
        key_size = agree _ _ zero.0;
        map_size = agree _ _ zero.1;
        room_is = agree _ _ one.1;
      }

-- the form of a record
pub record FormClear (level : ℕ) (bytes : List ℕ) : Type 0 where
  pub whole : record_bytes ≤ length bytes
  pub kind : kind_of bytes ≡ map_kind level
  pub body : body_of bytes ≡ map_body

module _ (level : ℕ) (bytes : List ℕ) where
  pub form_numbered : Numbered (form_reasons level bytes)
  unfolding form_reasons
  form_numbered = (lit< tt, (lit< tt, (lit< tt, tt)))

  pub form_clear : first_of (form_reasons level bytes) ≡ 0 → FormClear level bytes
  unfolding form_reasons
  form_clear none =
      let first = clear _ _ (lit< tt) none in
      let second = clear _ _ (lit< tt) first.1 in
      let third = clear _ _ (lit< tt) second.1 in
      let there = both_false (ltb (length bytes) 6) (ltb (length bytes - 6) (body_of bytes)) first.0 in
      let body = agree (body_of bytes) map_body third.0 in
      record {
        whole = omega (arith, ltb-false (length bytes) 6 there.0, ltb-false (length bytes - 6) (body_of bytes) there.1);
        kind = agree (kind_of bytes) (map_kind level) second.0;
        body = body;
      }

  pub form_none : FormClear level bytes → first_of (form_reasons level bytes) ≡ 0
  unfolding form_reasons first_of differs
  form_none is =
      let body = is.body in
      let six : 6 ≤ length bytes = omega (arith, is.whole) in
      let all : body_of bytes ≤ length bytes - 6 = omega (arith, is.whole) in
      rw (le-ltb _ _ six, le-ltb _ _ all, eq-eqb _ _ is.kind, eq-eqb _ _ body)

-- the acceptance
module _ (level : ℕ) (key : List ℕ) (kart : ℕ) (bytes stored : List ℕ) (last : ℕ) where
  pub accepting_clear : first_of (accepting_reasons level key kart bytes (length stored) last) ≡ 0 → GoesIn level key kart bytes stored last
  unfolding accepting_reasons meant_reasons
  accepting_clear none =
      let first = clear _ _ (lit< tt) none in
      let second = clear _ _ (lit< tt) first.1 in
      let lengths = both_false _ _ second.0 in
      let parts = all_clear (form_reasons level bytes) _ (form_numbered level bytes) second.1 in
      let form = form_clear level bytes parts.0 in
      let tag = clear _ _ (lit< tt) parts.1 in
      let this_kart = clear _ _ (lit< tt) tag.1 in
      record {
        form = record {
          level_known = not-false _ first.0;
          key_size = agree _ _ lengths.0;
          map_size = agree _ _ lengths.1;
          whole = form.whole;
          kind = form.kind;
          body = form.body;
        };
        tag = equal_true _ _ (not-false _ tag.0);
        this_kart = agree _ _ this_kart.0;
        above = leb-false _ _ (clear _ _ (lit< tt) this_kart.1).0;
      }

  -- where the level, the lengths and the form are right, the last three reasons count
  pub in_form : InForm level key bytes stored
      → first_of (accepting_reasons level key kart bytes (length stored) last) ≡ first_of (meant_reasons key kart bytes last)
  unfolding accepting_reasons first_of differs
  in_form is =
      let none = form_none level bytes (record { whole = is.whole; kind = is.kind; body = is.body }) in
      rw (is.level_known, eq-eqb _ _ is.key_size, eq-eqb _ _ is.map_size)
      (first_after (form_reasons level bytes) (meant_reasons key kart bytes last) (form_numbered level bytes) none)

  pub accepting_none : GoesIn level key kart bytes stored last → first_of (accepting_reasons level key kart bytes (length stored) last) ≡ 0
  unfolding meant_reasons first_of differs
  accepting_none is =
      in_form is.form ∙ rw (equal-same is.tag, eq-eqb _ _ is.this_kart, lt-leb _ _ is.above)
