-- What the public entries of this crate promise, for all input: document 01's numbers down the column, and the value of each output
-- where none applies. Inputs are lists of bytes; `room` is an output's actual length. Each entry has its reasons, which its judge looks
-- at before anything is written, its outcome, and its promise on what it answers and leaves. Assumes nothing.
use Rattle.std.specs.Prelude.{◌≡◌, not, ◌||◌, List, [], ◌∷◌, ◌++◌, ℕ, Result, Ok, Err, ltb, length, take}
use Rattle.hashing.specs.Answers.{Reason, Outcome, differs, settle, reported}
use Rattle.hashing.specs.Answers.Outcome.{gives}
use Rattle.hashing.specs.Lists.{bits}
use Rattle.hashing.specs.declared.refusal.Refusal.{Refusal}
use Rattle.ring.specs.Bytes.{bytes_of, pad_set}
use Rattle.ring.specs.Levels.{Level, known, level_of, message_bytes, seed_bytes, poly_bytes, ciphertext_bytes, private_bytes}
use Rattle.ring.specs.Polynomials.{has_inverse, support}
use Rattle.exchange.specs.declared.fair.FairCounts.{FairCounts}
use Rattle.exchange.specs.declared.keys.KeyCounts.{KeyCounts}
use Rattle.exchange.specs.decoder.Decoder.{bgf, failed}
use Rattle.exchange.specs.decoder.PrivateKey.{secret, good_key}
use Rattle.exchange.specs.decoder.Stopping.{fewest}
use Rattle.exchange.specs.Fair.{most_words, ran_out, drawn_for}
use Rattle.exchange.specs.Opening.{opened}
use Rattle.exchange.specs.Scheme.{hash_h, hash_k, h0_of, public_of, private_of, key_ran_out, key_counts, error_replaced, key_digest, wrapped}

-- H: a message, e0 and e1
unfoldable pub error_reasons : ℕ → List ℕ → ℕ → ℕ → List Reason
error_reasons level m room0 room1 =
    let l = level_of level in
    record { applies = not (known level); number = 1 }
    ∷ record { applies = differs (length m) message_bytes || differs room0 (poly_bytes l) || differs room1 (poly_bytes l); number = 2 }
    ∷ []

unfoldable pub error_of_says : ℕ → List ℕ → ℕ → ℕ → Outcome
error_of_says level m room0 room1 =
    let l = level_of level in
    settle (error_reasons level m room0 room1)
    (record { room = room0; value = bytes_of l.r (hash_h l m).half0 }
    ∷ record { room = room1; value = bytes_of l.r (hash_h l m).half1 }
    ∷ [])

abbrev pub ErrorOfPromise : ℕ → List ℕ → ℕ → ℕ → ℕ → List ℕ → List ℕ → Type 0
ErrorOfPromise level m room0 room1 r e0 e1 = gives r (e0 ∷ e1 ∷ []) ≡ error_of_says level m room0 room1

abbrev pub ErrorCountPromise : ℕ → List ℕ → ℕ → ℕ → ℕ → Type 0
ErrorCountPromise level m room0 room1 replaced =
    replaced ∷ [] ≡ reported (error_of_says level m room0 room1) (error_replaced (level_of level) m ∷ [])

-- key making: a seed, public and private key
unfoldable pub making_reasons : ℕ → List ℕ → ℕ → ℕ → List Reason
making_reasons level seed room_public room_private =
    let l = level_of level in
    record { applies = not (known level); number = 1 }
    ∷ record { applies = differs (length seed) seed_bytes || differs room_public (poly_bytes l) || differs room_private (private_bytes l); number = 2 }
    ∷ []

-- what shows only in the work: 10 comes "after 4 and before 5 in key making", though it is the larger number
unfoldable pub work_reasons : Level → List ℕ → List Reason
work_reasons l seed =
    record { applies = key_ran_out l seed; number = 10 } ∷ record { applies = not (has_inverse l.r (h0_of l seed)); number = 5 } ∷ []

unfoldable pub make_key_says : ℕ → List ℕ → ℕ → ℕ → Outcome
make_key_says level seed room_public room_private =
    let l = level_of level in
    settle (making_reasons level seed room_public room_private ++ work_reasons l seed)
    (record { room = room_public; value = bytes_of l.r (public_of l seed) }
    ∷ record { room = room_private; value = private_of l seed }
    ∷ [])

abbrev pub MakeKeyPromise : ℕ → List ℕ → ℕ → ℕ → ℕ → List ℕ → List ℕ → Type 0
MakeKeyPromise level seed room_public room_private r public private =
    gives r (public ∷ private ∷ []) ≡ make_key_says level seed room_public room_private

-- the four numbers of an answer
abbrev pub counts_of : KeyCounts → List ℕ
counts_of counts = counts.used0 ∷ counts.passed0 ∷ counts.used1 ∷ counts.passed1 ∷ []

-- "0 on a refusal"
abbrev pub counts_given : Result KeyCounts Refusal → KeyCounts
counts_given (Ok counts) = counts
counts_given (Err refusal) = record { used0 = 0; passed0 = 0; used1 = 0; passed1 = 0 }

abbrev pub KeyCountPromise : ℕ → List ℕ → ℕ → ℕ → KeyCounts → Type 0
KeyCountPromise level seed room_public room_private counts =
    counts_of counts ≡ reported (make_key_says level seed room_public room_private) (key_counts (level_of level) seed)

-- one polynomial of key making, from lent words: 10, "words ran out before d positions were listed"
unfoldable pub fair_reasons : ℕ → ℕ → ℕ → List Reason
fair_reasons level count room =
    let l = level_of level in
    record { applies = not (known level); number = 1 }
    ∷ record { applies = ltb most_words count || differs room (poly_bytes l); number = 2 }
    ∷ []

unfoldable pub fair_work : Level → List ℕ → List Reason
fair_work l words = record { applies = ran_out l.d (drawn_for l words); number = 10 } ∷ []

unfoldable pub fair_says : ℕ → List ℕ → ℕ → Outcome
fair_says level words room =
    let l = level_of level in
    let drawn = drawn_for l words in
    settle (fair_reasons level (length words) room ++ fair_work l words)
    (record { room = room; value = bytes_of l.r (support drawn.positions) } ∷ [])

abbrev pub FairPromise : ℕ → List ℕ → ℕ → ℕ → List ℕ → Type 0
FairPromise level words room r polynomial = gives r (polynomial ∷ []) ≡ fair_says level words room

-- "0 on a refusal"
abbrev pub fair_given : Result FairCounts Refusal → FairCounts
fair_given (Ok counts) = counts
fair_given (Err refusal) = record { used = 0; passed = 0 }

abbrev pub FairCountPromise : ℕ → List ℕ → ℕ → ℕ → ℕ → Type 0
FairCountPromise level words room used passed =
    let drawn = drawn_for (level_of level) words in
    used ∷ passed ∷ [] ≡ reported (fair_says level words room) (drawn.used ∷ drawn.passed ∷ [])

-- wrapping: a public key and a message, ciphertext and session key
unfoldable pub wrapping_reasons : ℕ → List ℕ → List ℕ → ℕ → ℕ → List Reason
wrapping_reasons level h m room_ciphertext room_key =
    let l = level_of level in
    record { applies = not (known level); number = 1 }
    ∷ record {
      applies = differs (length h) (poly_bytes l) || differs (length m) message_bytes || differs room_ciphertext (ciphertext_bytes l) || differs room_key message_bytes;
      number = 2;
    }
    ∷ record { applies = pad_set l.r h; number = 3 }
    ∷ []

unfoldable pub wrap_says : ℕ → List ℕ → List ℕ → ℕ → ℕ → Outcome
wrap_says level h m room_ciphertext room_key =
    let c = wrapped (level_of level) (key_digest h) (bits 8 h) m in
    settle (wrapping_reasons level h m room_ciphertext room_key)
    (record { room = room_ciphertext; value = c } ∷ record { room = room_key; value = hash_k m c } ∷ [])

abbrev pub WrapPromise : ℕ → List ℕ → List ℕ → ℕ → ℕ → ℕ → List ℕ → List ℕ → Type 0
WrapPromise level h m room_ciphertext room_key r c key = gives r (c ∷ key ∷ []) ≡ wrap_says level h m room_ciphertext room_key

-- decoding and opening, once the lengths are right: the pad of a polynomial, then the positions of the private key
unfoldable pub content_reasons : Level → List ℕ → List ℕ → List Reason
content_reasons l key polynomial =
    record { applies = pad_set l.r polynomial; number = 3 } ∷ record { applies = not (good_key l key); number = 4 } ∷ []

-- decoding: a private key and a syndrome polynomial, e0 and e1
unfoldable pub decoding_reasons : ℕ → List ℕ → List ℕ → ℕ → ℕ → List Reason
decoding_reasons level key s room0 room1 =
    let l = level_of level in
    record { applies = not (known level); number = 1 }
    ∷ record {
      applies = differs (length key) (private_bytes l) || differs (length s) (poly_bytes l) || differs room0 (poly_bytes l) || differs room1 (poly_bytes l);
      number = 2;
    }
    ∷ content_reasons l key s

unfoldable pub decode_says : ℕ → List ℕ → List ℕ → ℕ → ℕ → Outcome
decode_says level key s room0 room1 =
    let l = level_of level in
    let h = secret l key in
    settle (decoding_reasons level key s room0 room1 ++ (record { applies = failed bgf l h (bits 8 s); number = 6 } ∷ []))
    (record { room = room0; value = bytes_of l.r (bgf l h (bits 8 s)).half0 }
    ∷ record { room = room1; value = bytes_of l.r (bgf l h (bits 8 s)).half1 }
    ∷ [])

abbrev pub DecodePromise : ℕ → List ℕ → List ℕ → ℕ → ℕ → ℕ → List ℕ → List ℕ → Type 0
DecodePromise level key s room0 room1 r e0 e1 = gives r (e0 ∷ e1 ∷ []) ≡ decode_says level key s room0 room1

-- decoding that stops early: answer and error keep the promise above; "refusals 1 to 4 tell 0", and 6 does not
unfoldable pub rounds_say : ℕ → List ℕ → List ℕ → ℕ → ℕ → List ℕ
rounds_say level key s room0 room1 =
    let l = level_of level in
    reported (settle (decoding_reasons level key s room0 room1) []) (fewest l (secret l key) (bits 8 s) ∷ [])

abbrev pub RoundsPromise : ℕ → List ℕ → List ℕ → ℕ → ℕ → ℕ → Type 0
RoundsPromise level key s room0 room1 rounds = rounds ∷ [] ≡ rounds_say level key s room0 room1

-- opening: a private key and a ciphertext, session key
unfoldable pub opening_reasons : ℕ → List ℕ → List ℕ → ℕ → List Reason
opening_reasons level key c room_key =
    let l = level_of level in
    record { applies = not (known level); number = 1 }
    ∷ record { applies = differs (length key) (private_bytes l) || differs (length c) (ciphertext_bytes l) || differs room_key message_bytes; number = 2 }
    ∷ content_reasons l key (take (poly_bytes l) c)

unfoldable pub open_says : ℕ → List ℕ → List ℕ → ℕ → Outcome
open_says level key c room_key =
    settle (opening_reasons level key c room_key) (record { room = room_key; value = opened bgf (level_of level) key c } ∷ [])

abbrev pub OpenPromise : ℕ → List ℕ → List ℕ → ℕ → ℕ → List ℕ → Type 0
OpenPromise level key c room_key r session_key = gives r (session_key ∷ []) ≡ open_says level key c room_key
