-- What packing and unpacking promise, for all input: "Refusals: 1, 2, 3 (pad set), 4 in 01's order." Assumes nothing.
use Rattle.std.specs.Prelude.{◌≡◌, not, ◌||◌, List, [], ◌∷◌, ◌++◌, ℕ, length}
use Rattle.hashing.specs.Answers.{Reason, Outcome, differs, settle}
use Rattle.hashing.specs.Answers.Outcome.{gives}
use Rattle.ring.specs.Levels.{known, level_of, private_bytes}
use Rattle.exchange.specs.decoder.PrivateKey.{good_key}
use Rattle.packing.specs.Packing.{packed_bytes, packed, padded, unpacked}

-- packing: a private key, its packed form
unfoldable pub pack_reasons : ℕ → List ℕ → ℕ → List Reason
pack_reasons level key room =
    let l = level_of level in
    record { applies = not (known level); number = 1 }
    ∷ record { applies = differs (length key) (private_bytes l) || differs room (packed_bytes l); number = 2 }
    ∷ record { applies = not (good_key l key); number = 4 }
    ∷ []

unfoldable pub pack_says : ℕ → List ℕ → ℕ → Outcome
pack_says level key room =
    settle (pack_reasons level key room) (record { room = room; value = packed (level_of level) key } ∷ [])

abbrev pub PackPromise : ℕ → List ℕ → ℕ → ℕ → List ℕ → Type 0
PackPromise level key room r out = gives r (out ∷ []) ≡ pack_says level key room

-- unpacking: a packed key, the private key. 4 is of the private key that was unpacked
unfoldable pub unpack_reasons : ℕ → List ℕ → ℕ → List Reason
unpack_reasons level bytes room =
    let l = level_of level in
    record { applies = not (known level); number = 1 }
    ∷ record { applies = differs (length bytes) (packed_bytes l) || differs room (private_bytes l); number = 2 }
    ∷ record { applies = padded l bytes; number = 3 }
    ∷ []

unfoldable pub unpack_says : ℕ → List ℕ → ℕ → Outcome
unpack_says level bytes room =
    let key = unpacked (level_of level) bytes in
    settle (unpack_reasons level bytes room ++ (record { applies = not (good_key (level_of level) key); number = 4 } ∷ []))
    (record { room = room; value = key } ∷ [])

abbrev pub UnpackPromise : ℕ → List ℕ → ℕ → ℕ → List ℕ → Type 0
UnpackPromise level bytes room r out = gives r (out ∷ []) ≡ unpack_says level bytes room
