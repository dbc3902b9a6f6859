-- What it takes for a map write to go in, and a session: records that come one after another. Assumes nothing.
use Rattle.std.specs.Prelude.{◌≡◌, true, List, [], ◌∷◌, ℕ, ◌≤◌, ◌<◌, length, get_or}
use Rattle.hashing.specs.Answers.{Outcome}
use Rattle.hashing.specs.Answers.Outcome.{gives}
use Rattle.ring.specs.Levels.{known, message_bytes}
use Rattle.exchange.specs.Records.{body_of, kind_of}
use Rattle.maps.specs.Promises.{accept_map_says}
use Rattle.maps.specs.Writes.{map_bytes, map_body, record_bytes, map_kind, tag_of, kart_in, counter_in, covered_in, tag_in}

-- the level and the lent lengths, and the record's form
pub record InForm (level : ℕ) (key bytes map : List ℕ) : Type 0 where
  pub level_known : known level ≡ true
  pub key_size : length key ≡ message_bytes
  pub map_size : length map ≡ map_bytes
  pub whole : record_bytes ≤ length bytes
  pub kind : kind_of bytes ≡ map_kind level
  pub body : body_of bytes ≡ map_body

-- "A write goes in exactly if the tag is right, the kart number is this controller's and the counter is above the last
-- accepted one."
pub record GoesIn (level : ℕ) (key : List ℕ) (kart : ℕ) (bytes map : List ℕ) (last : ℕ) : Type 0 where
  pub form : InForm level key bytes map
  pub tag : tag_in bytes ≡ tag_of key (covered_in bytes)
  pub this_kart : kart_in bytes ≡ kart
  pub above : last < counter_in bytes

-- "A new session starts that at 0 and keeps the stored map."
abbrev pub new_session : ℕ
new_session = 0

-- what a controller keeps from record to record
pub record Controller : Type 0 where
  pub map : List ℕ
  pub last : ℕ

unfoldable pub kept_in : Outcome → Controller
kept_in (gives answer contents) = record { map = get_or contents 0 []; last = get_or (get_or contents 1 []) 0 0 }

-- one record, and all of a list
unfoldable pub next : ℕ → List ℕ → ℕ → Controller → List ℕ → Controller
next level key kart now bytes = kept_in (accept_map_says level key kart bytes now.map now.last)

unfoldable pub after : ℕ → List ℕ → ℕ → Controller → List (List ℕ) → Controller
after level key kart now [] = now
after level key kart now (bytes ∷ rest) = after level key kart (next level key kart now bytes) rest

unfoldable pub session : ℕ → List ℕ → ℕ → List ℕ → List (List ℕ) → Controller
session level key kart map records = after level key kart (record { map = map; last = new_session }) records
