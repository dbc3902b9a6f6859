-- Demand 3, in its own words. Assumes nothing.
use Rattle.std.specs.Prelude.{◌≡◌, false, List, [], ◌∷◌, ◌⊎◌, ℕ, ◌^◌, ◌<◌, length, get_or, take}
use Rattle.hashing.specs.Answers.Outcome.{gives}
use Rattle.hashing.specs.Lists.{bits}
use Rattle.ring.specs.Bytes.{pad_set}
use Rattle.ring.specs.Levels.{Level, level_of, message_bytes, poly_bytes, ciphertext_bytes}
use Rattle.exchange.specs.decoder.Decoder.{Decoder, bgf, failed}
use Rattle.exchange.specs.decoder.PrivateKey.{secret}
use Rattle.exchange.specs.Opening.{syndrome_of}
use Rattle.exchange.specs.Promises.{make_key_says, wrap_says, open_says}
use Rattle.exchange.specs.Scheme.{key_digest, bound_h, hash_k, sigma_of, wrapped}

-- "Take a key pair from our own key making": key making answers 0 with these two keys
abbrev pub FromKeyMaking : ℕ → List ℕ → List ℕ → List ℕ → Type 0
FromKeyMaking level seed public private =
    make_key_says level seed (length public) (length private) ≡ gives 0 (public ∷ private ∷ [])

-- n bytes
pub record Bytes (n : ℕ) (xs : List ℕ) : Type 0 where
  pub size : length xs ≡ n
  pub small : (i : ℕ) → get_or xs i 0 < 2 ^ 8

-- "any well-formed ciphertext": bytes of the level's length, with no pad bit of c0 set
pub record WellFormed (l : Level) (c : List ℕ) : Type 0 where
  pub bytes : Bytes (ciphertext_bytes l) c
  pub no_pad : pad_set l.r (take (poly_bytes l) c) ≡ false

-- "A message m fits if wrapping m to that public key gives this very ciphertext and the defined decoder finds in it the error that m
-- determines"
pub record Fits (decoder : Decoder) (l : Level) (public private c m : List ℕ) : Type 0 where
  pub message : Bytes message_bytes m
  pub wraps : wrapped l (key_digest public) (bits 8 public) m ≡ c
  pub decodes : failed decoder l (secret l private) (syndrome_of l private c) ≡ false
  pub finds : decoder l (secret l private) (syndrome_of l private c) ≡ bound_h l (key_digest public) m

-- what is claimed of such a pair and such a ciphertext; `one_or_none` says that one of the last two always applies
pub record Fitting (level : ℕ) (seed public private c : List ℕ) : Type 0 where
  -- "At most one m fits a ciphertext"
  pub at_most_one : (m n : List ℕ) → Fits bgf (level_of level) public private c m → Fits bgf (level_of level) public private c n → m ≡ n
  -- "and no m fits two"
  pub never_two : (m d : List ℕ) → Fits bgf (level_of level) public private c m → Fits bgf (level_of level) public private d m → c ≡ d
  pub one_or_none : ((m : List ℕ) × Fits bgf (level_of level) public private c m) ⊎ ((m : List ℕ) → Fits bgf (level_of level) public private c m → ⊥)
  -- "If one fits, opening gives the session key that wrapping m gave"
  pub if_one_fits : (m : List ℕ) → Fits bgf (level_of level) public private c m
      → (wrap_says level public m (length c) message_bytes ≡ gives 0 (c ∷ hash_k m c ∷ []))
      × (open_says level private c message_bytes ≡ gives 0 (hash_k m c ∷ []))
  -- "if none fits, the key worked out from the substitute sigma and this ciphertext, with the same answer number"
  pub if_none_fits : ((m : List ℕ) → Fits bgf (level_of level) public private c m → ⊥)
      → open_says level private c message_bytes ≡ gives 0 (hash_k (sigma_of seed) c ∷ [])

-- the demand, for every level: a key pair from our own key making, and any well-formed ciphertext
abbrev pub Demand3 : Type 0
Demand3 =
    (level : ℕ) (seed public private c : List ℕ) → FromKeyMaking level seed public private → WellFormed (level_of level) c
    → Fitting level seed public private c
