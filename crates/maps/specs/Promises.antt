-- What the two public entries promise, for all input. Numbers below 2^32 are numbers, all else is a list of bytes;
-- `room` is an output's actual length. Assumes nothing.
use Rattle.std.specs.Prelude.{◌≡◌, not, ◌||◌, List, [], ◌∷◌, ◌++◌, ℕ, ◌-◌, leb, ltb, length}
use Rattle.hashing.specs.Answers.{Reason, Outcome, differs, settle}
use Rattle.hashing.specs.Answers.Outcome.{gives}
use Rattle.ring.specs.Levels.{known, message_bytes}
use Rattle.exchange.specs.Records.{body_of, kind_of}
use Rattle.maps.specs.Keeping.{keep}
use Rattle.maps.specs.Writes.{map_bytes, map_body, record_bytes, map_kind, tag_of, written, kart_in, counter_in, map_in, covered_in, tag_in, equal}

-- the writer: a session key and a map, record
unfoldable pub writing_reasons : ℕ → List ℕ → List ℕ → ℕ → List Reason
writing_reasons level key map room =
    record { applies = not (known level); number = 1 }
    ∷ record { applies = differs (length key) message_bytes || differs (length map) map_bytes || differs room record_bytes; number = 2 }
    ∷ []

unfoldable pub write_map_says : ℕ → List ℕ → ℕ → ℕ → List ℕ → ℕ → Outcome
write_map_says level key kart counter map room =
    settle (writing_reasons level key map room) (record { room = room; value = written level key kart counter map } ∷ [])

abbrev pub WriteMapPromise : ℕ → List ℕ → ℕ → ℕ → List ℕ → ℕ → ℕ → List ℕ → Type 0
WriteMapPromise level key kart counter map room r bytes = gives r (bytes ∷ []) ≡ write_map_says level key kart counter map room

-- the acceptance: the record's form, "8 (any kind but thing 7 at the session's level)"; bytes after the record are not
-- looked at
unfoldable pub form_reasons : ℕ → List ℕ → List Reason
form_reasons level bytes =
    record { applies = ltb (length bytes) 6 || ltb (length bytes - 6) (body_of bytes); number = 7 }
    ∷ record { applies = differs (kind_of bytes) (map_kind level); number = 8 }
    ∷ record { applies = differs (body_of bytes) map_body; number = 9 }
    ∷ []

-- "then 11 tag, 12 kart, 13 counter"
unfoldable pub meant_reasons : List ℕ → ℕ → List ℕ → ℕ → List Reason
meant_reasons key kart bytes last =
    record { applies = not (equal (tag_in bytes) (tag_of key (covered_in bytes))); number = 11 }
    ∷ record { applies = differs (kart_in bytes) kart; number = 12 }
    ∷ record { applies = leb (counter_in bytes) last; number = 13 }
    ∷ []

unfoldable pub accepting_reasons : ℕ → List ℕ → ℕ → List ℕ → ℕ → ℕ → List Reason
accepting_reasons level key kart bytes room last =
    record { applies = not (known level); number = 1 }
    ∷ record { applies = differs (length key) message_bytes || differs room map_bytes; number = 2 }
    ∷ (form_reasons level bytes ++ meant_reasons key kart bytes last)

-- a session key, a record, the stored map and the last accepted counter: the map and the counter to keep
unfoldable pub accept_map_says : ℕ → List ℕ → ℕ → List ℕ → List ℕ → ℕ → Outcome
accept_map_says level key kart bytes map last =
    keep (accepting_reasons level key kart bytes (length map) last)
    (record { old = map; new = map_in bytes } ∷ record { old = last ∷ []; new = counter_in bytes ∷ [] } ∷ [])

abbrev pub AcceptMapPromise : ℕ → List ℕ → ℕ → List ℕ → List ℕ → ℕ → ℕ → List ℕ → ℕ → Type 0
AcceptMapPromise level key kart bytes map last r map' counter =
    gives r (map' ∷ (counter ∷ []) ∷ []) ≡ accept_map_says level key kart bytes map last
