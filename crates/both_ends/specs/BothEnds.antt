-- What both ends of an exchange hold in the end: of a seed, by key making, and of a message that is wrapped and opened. Assumes nothing.
use Rattle.std.specs.Prelude.{◌≡◌, false, not, ◌||◌, List, [], ◌∷◌, ◌++◌, ℕ, length}
use Rattle.hashing.specs.Answers.{Reason, Outcome, differs, settle}
use Rattle.hashing.specs.Answers.Outcome.{gives}
use Rattle.ring.specs.Bytes.{bytes_of}
use Rattle.ring.specs.Levels.{Level, known, level_of, message_bytes, seed_bytes}
use Rattle.exchange.specs.decoder.Decoder.{Decoder, bgf, failed}
use Rattle.exchange.specs.decoder.PrivateKey.{secret}
use Rattle.exchange.specs.Fits.{Fits}
use Rattle.exchange.specs.Opening.{syndrome_of, opened}
use Rattle.exchange.specs.Promises.{work_reasons}
use Rattle.exchange.specs.Scheme.{key_digest, bound_h, hash_k, sigma_of, public_of, private_of, wrapped}

-- D of the public key
abbrev pub digest_of : Level → List ℕ → List ℕ
digest_of l seed = key_digest (bytes_of l.r (public_of l seed))

-- what the app sends
unfoldable pub sent_to : Level → List ℕ → List ℕ → List ℕ
sent_to l seed m = wrapped l (digest_of l seed) (public_of l seed) m

-- 1, 2, and 10 or 5 as in key making; else the key of each end
unfoldable pub both_ends_reasons : ℕ → List ℕ → List ℕ → ℕ → ℕ → List Reason
both_ends_reasons level seed m room_sent room_opened =
    record { applies = not (known level); number = 1 }
    ∷ record {
      applies = differs (length seed) seed_bytes || differs (length m) message_bytes || differs room_sent message_bytes || differs room_opened message_bytes;
      number = 2;
    }
    ∷ []

unfoldable pub both_ends_says : ℕ → List ℕ → List ℕ → ℕ → ℕ → Outcome
both_ends_says level seed m room_sent room_opened =
    let l = level_of level in
    let c = sent_to l seed m in
    settle (both_ends_reasons level seed m room_sent room_opened ++ work_reasons l seed)
    (record { room = room_sent; value = hash_k m c } ∷ record { room = room_opened; value = opened bgf l (private_of l seed) c } ∷ [])

abbrev pub BothEndsPromise : ℕ → List ℕ → List ℕ → ℕ → ℕ → ℕ → List ℕ → List ℕ → Type 0
BothEndsPromise level seed m room_sent room_opened r sent opened =
    gives r (sent ∷ opened ∷ []) ≡ both_ends_says level seed m room_sent room_opened

-- the decoder finds the message's error in what is sent
pub record Finds (decoder : Decoder) (l : Level) (seed m : List ℕ) : Type 0 where
  pub decodes : failed decoder l (secret l (private_of l seed)) (syndrome_of l (private_of l seed) (sent_to l seed m)) ≡ false
  pub finds : decoder l (secret l (private_of l seed)) (syndrome_of l (private_of l seed) (sent_to l seed m)) ≡ bound_h l (digest_of l seed) m

-- n fits what is sent
abbrev pub FitsSent : Decoder → Level → List ℕ → List ℕ → List ℕ → Type 0
FitsSent decoder l seed m n = Fits decoder l (bytes_of l.r (public_of l seed)) (private_of l seed) (sent_to l seed m) n

-- What opening gives is the sent key whenever the decoder finds the message's error. It may be that it finds the error of another message
-- that fits: then it is the key of that one. Where none fits it is the substitute's.
pub record Agree (l : Level) (seed m sent opened : List ℕ) : Type 0 where
  pub same : Finds bgf l seed m → opened ≡ sent
  pub another : (n : List ℕ) → FitsSent bgf l seed m n → opened ≡ hash_k n (sent_to l seed m)
  pub substitute : ((n : List ℕ) → FitsSent bgf l seed m n → ⊥) → opened ≡ hash_k (sigma_of seed) (sent_to l seed m)
