-- Which records go in: theorems over the promises of the two entries. Assumes nothing.
use mathlib.Core.Path.{◌≡◌, refl, sym, ap, ap₂, ◌∙◌}
use mathlib.Core.List.{List, ◌++◌}
use Prim.Native.Nat.{ℕ, ◌^◌, ◌<◌}
use borrow.Author.Tests.{ne_eqb}
use lib.ListN.{length, take}
use Rattle.hashing.specs.Answers.{differs, first_of}
use Rattle.hashing.proofs.Answers.{settled}
use Rattle.ring.proofs.Layouts.{Below}
use Rattle.ring.proofs.Levels.{level_small}
use Rattle.maps.specs.Keeping.{keep}
use Rattle.maps.specs.Promises.{WriteMapPromise, AcceptMapPromise, writing_reasons, meant_reasons, accepting_reasons, write_map_says, accept_map_says}
use Rattle.maps.specs.Session.{InForm, GoesIn}
use Rattle.maps.specs.Writes.{map_bytes, map_body, record_bytes, little_bytes, covered, tag_of, written, kart_in, counter_in, map_in, covered_in, tag_in}
use Rattle.maps.proofs.Equal.{equal-same}
use Rattle.maps.proofs.Judged.{WritingClear, writing_clear, accepting_clear, accepting_none, in_form}
use Rattle.maps.proofs.Keeping.{goes_in, stays, one_kept}
use Rattle.maps.proofs.Written.{written_long, written_kind, written_body, written-covered, written_tag, written_kart, written-counter, written-map, covered_parts, whole_parts}

-- ---- what an acceptance answers and leaves

module _ (level : ℕ) (key : List ℕ) (kart : ℕ) (bytes map : List ℕ) (last : ℕ) {r : ℕ} {stored : List ℕ} {counter : ℕ}
    (says : AcceptMapPromise level key kart bytes map last r stored counter) where
  pub answer_is : r ≡ first_of (accepting_reasons level key kart bytes (length map) last)
  unfolding accept_map_says keep
  answer_is = cc

  -- "A write goes in exactly if"
  pub goes_in_exactly_if : (r ≡ 0 → GoesIn level key kart bytes map last)
      × (GoesIn level key kart bytes map last → (r ≡ 0) × (stored ≡ map_in bytes) × (counter ≡ counter_in bytes))
  unfolding accept_map_says
  goes_in_exactly_if = (
    λ done. accepting_clear level key kart bytes map last (sym answer_is ∙ done),
    λ is. one_kept says (sym (goes_in _ _ (accepting_none level key kart bytes map last is))),
  )

  -- "a refusal keeps the stored map and counter"
  pub refusal_keeps : (r ≡ 0 → ⊥) → (stored ≡ map) × (counter ≡ last)
  unfolding accept_map_says
  refusal_keeps refused = let kept = one_kept says (sym (stays _ _ answer_is refused)) in (kept.1, kept.2)

  -- byte for byte, nothing but what the writer writes
  pub only_written_goes_in : Below 8 bytes → r ≡ 0 → take record_bytes bytes ≡ written level key kart (counter_in bytes) (map_in bytes)
  unfolding written
  only_written_goes_in small done =
      let is = goes_in_exactly_if.0 done in
      let form = is.form in
      let covers = covered_parts bytes form.whole small level form.kind ∙ ap (λ (k : ℕ). covered level k (counter_in bytes) (map_in bytes)) is.this_kart in
      whole_parts bytes form.whole small form.body
      ∙ ap (◌++◌ (little_bytes 4 map_body)) (ap₂ ◌++◌ covers (is.tag ∙ ap (tag_of key) covers))

-- ---- what the writer wrote

module _ (level : ℕ) (key : List ℕ) (kart counter : ℕ) (map : List ℕ) (room : ℕ) {bytes : List ℕ}
    (writes : WriteMapPromise level key kart counter map room 0 bytes) where
  wrote : WritingClear level key map room × (bytes ≡ written level key kart counter map)
  unfolding write_map_says
  wrote =
      let is = settled (writing_reasons level key map room) _ (sym writes) in
      (writing_clear is.0, cc is.1)

  -- and is read back, with any bytes after it
  module _ (after : List ℕ) where
    in_its_form : {stored : List ℕ} → length stored ≡ map_bytes → InForm level key (bytes ++ after) stored
    in_its_form stored_size =
        let clear = wrote.0 in
        rw wrote.1
        (record {
          level_known = clear.level_known;
          key_size = clear.key_size;
          map_size = stored_size;
          whole = written_long level key kart counter map clear.map_size after;
          kind = written_kind level key kart counter map clear.map_size after (level_small level clear.level_known);
          body = written_body level key kart counter map clear.map_size after;
        })

    its_covered : covered_in (bytes ++ after) ≡ covered level kart counter map
    its_covered = rw wrote.1 (written-covered level key kart counter map wrote.0.map_size after)

    its_tag : tag_in (bytes ++ after) ≡ tag_of key (covered_in (bytes ++ after))
    its_tag = rw (its_covered, wrote.1) (written_tag level key kart counter map wrote.0.map_size after)

    its_kart : kart < 2 ^ 32 → kart_in (bytes ++ after) ≡ kart
    its_kart small = rw wrote.1 (written_kart level key kart counter map wrote.0.map_size after small)

    its_counter : counter < 2 ^ 32 → counter_in (bytes ++ after) ≡ counter
    its_counter small = rw wrote.1 (written-counter level key kart counter map wrote.0.map_size after small)

    its_map : map_in (bytes ++ after) ≡ map
    its_map = rw wrote.1 (written-map level key kart counter map wrote.0.map_size after)

    -- "what it writes in this session and level for this kart, with a higher counter, goes in"
    pub written_goes_in : (old : List ℕ) (last : ℕ) {r next : ℕ} {stored : List ℕ} → kart < 2 ^ 32 → counter < 2 ^ 32 → length old ≡ map_bytes → last < counter
        → AcceptMapPromise level key kart (bytes ++ after) old last r stored next → (r ≡ 0) × (stored ≡ map) × (next ≡ counter)
    written_goes_in old last kart_fits counter_fits old_size higher says =
        let is =
        (goes_in_exactly_if level key kart (bytes ++ after) old last says).1
        (record {
          form = in_its_form old_size;
          tag = its_tag;
          this_kart = its_kart kart_fits;
          above = rw (its_counter counter_fits) higher;
        }) in
        (is.0, is.1 ∙ its_map, is.2 ∙ its_counter counter_fits)

    -- a record for another kart is not this kart's
    pub other_kart_refused : (other : ℕ) (old : List ℕ) (last : ℕ) {r next : ℕ} {stored : List ℕ} → kart < 2 ^ 32 → (kart ≡ other → ⊥) → length old ≡ map_bytes
        → AcceptMapPromise level key other (bytes ++ after) old last r stored next → r ≡ 12
    unfolding meant_reasons first_of differs
    other_kart_refused other old last kart_fits another old_size says =
        answer_is level key other (bytes ++ after) old last says
        ∙ in_form level key other (bytes ++ after) old last (in_its_form old_size)
        ∙ rw (equal-same its_tag, its_kart kart_fits, ne_eqb kart other another)

    -- under another key it takes that key's very tag to go in
    pub other_key_takes_its_tag : (other : List ℕ) (here : ℕ) (old : List ℕ) (last : ℕ) {stored : List ℕ} {next : ℕ}
        → AcceptMapPromise level other here (bytes ++ after) old last 0 stored next
        → tag_of key (covered level kart counter map) ≡ tag_of other (covered level kart counter map)
    other_key_takes_its_tag other here old last says =
        ap (tag_of key) (sym its_covered) ∙ sym its_tag ∙ ((goes_in_exactly_if level other here (bytes ++ after) old last says).0 refl).tag ∙ ap (tag_of other) its_covered
