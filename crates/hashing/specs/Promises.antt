-- What the two public entries promise, for all input. `room` is the actual length of the output. Assumes nothing.
use Rattle.std.specs.Prelude.{◌≡◌, List, [], ◌∷◌, ℕ}
use Rattle.hashing.specs.Answers.{Reason, Outcome, differs, settle}
use Rattle.hashing.specs.Answers.Outcome.{gives}
use Rattle.hashing.specs.Sponge.{shake256, sha3_384}

-- "SHAKE256's output may have any length, 0 included": no refusal
unfoldable pub shake256_says : List ℕ → ℕ → Outcome
shake256_says M room = settle [] (record { room = room; value = shake256 M room } ∷ [])

abbrev pub Shake256Promise : List ℕ → ℕ → ℕ → List ℕ → Type 0
Shake256Promise M room r out = gives r (out ∷ []) ≡ shake256_says M room

-- "a SHA3-384 output has 48 bytes": 2 for any other length
unfoldable pub sha3_384_reasons : ℕ → List Reason
sha3_384_reasons room = record { applies = differs room 48; number = 2 } ∷ []

unfoldable pub sha3_384_says : List ℕ → ℕ → Outcome
sha3_384_says M room = settle (sha3_384_reasons room) (record { room = room; value = sha3_384 M } ∷ [])

abbrev pub Sha3_384Promise : List ℕ → ℕ → ℕ → List ℕ → Type 0
Sha3_384Promise M room r out = gives r (out ∷ []) ≡ sha3_384_says M room
