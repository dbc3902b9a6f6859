-- What a door promises where it has an output more than its entry. Assumes nothing.
use Rattle.std.specs.Prelude.{◌≡◌, not, ◌||◌, List, [], ◌∷◌, ◌++◌, ℕ, ◌/◌, ◌%◌, length}
use Rattle.hashing.specs.Answers.{Reason, Outcome, differs, settle}
use Rattle.hashing.specs.Answers.Outcome.{gives}
use Rattle.ring.specs.Bytes.{bytes_of}
use Rattle.ring.specs.Levels.{known, level_of, seed_bytes, poly_bytes, private_bytes}
use Rattle.exchange.specs.Promises.{work_reasons}
use Rattle.exchange.specs.Scheme.{public_of, private_of, key_counts}

-- a number in 4 bytes, little-endian
unfoldable pub four_bytes : ℕ → List ℕ
four_bytes n = n % 256 ∷ n / 256 % 256 ∷ n / 65536 % 256 ∷ n / 16777216 % 256 ∷ []

-- a report: numbers, one after the other
unfoldable pub report_of : List ℕ → List ℕ
report_of [] = []
report_of (n ∷ rest) = four_bytes n ++ report_of rest

-- key making reports four
abbrev pub report_bytes : ℕ
report_bytes = 16

-- key making: a seed, public and private key, and the report of the words that each half used and passed over
unfoldable pub making_door_reasons : ℕ → List ℕ → ℕ → ℕ → ℕ → List Reason
making_door_reasons level seed room_public room_private room_report =
    let l = level_of level in
    record { applies = not (known level); number = 1 }
    ∷ record {
      applies = differs (length seed) seed_bytes || differs room_public (poly_bytes l) || differs room_private (private_bytes l) || differs room_report report_bytes;
      number = 2;
    }
    ∷ []

unfoldable pub make_key_door_says : ℕ → List ℕ → ℕ → ℕ → ℕ → Outcome
make_key_door_says level seed room_public room_private room_report =
    let l = level_of level in
    settle (making_door_reasons level seed room_public room_private room_report ++ work_reasons l seed)
    (record { room = room_public; value = bytes_of l.r (public_of l seed) }
    ∷ record { room = room_private; value = private_of l seed }
    ∷ record { room = room_report; value = report_of (key_counts l seed) }
    ∷ [])

abbrev pub MakeKeyDoorPromise : ℕ → List ℕ → ℕ → ℕ → ℕ → ℕ → List ℕ → List ℕ → List ℕ → Type 0
MakeKeyDoorPromise level seed room_public room_private room_report r public private report =
    gives r (public ∷ private ∷ report ∷ []) ≡ make_key_door_says level seed room_public room_private room_report
