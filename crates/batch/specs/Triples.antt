-- CR 8: records that come in turn, and what a triple of them adds to the totals. Assumes nothing.
use Rattle.std.specs.Prelude.{true, false, ◌||◌, List, [], ◌∷◌, ℕ, ◌+◌, ◌/◌, ◌%◌, eqb, length, take, drop, Result, Ok, Err, Some, None}
use Rattle.hashing.specs.Answers.{differs, first_of}
use Rattle.hashing.specs.Lists.{bits}
use Rattle.ring.specs.Levels.{Level, level_of, message_bytes, poly_bytes, private_bytes}
use Rattle.exchange.specs.Opening.{syndrome_of}
use Rattle.exchange.specs.Promises.{content_reasons}
use Rattle.exchange.specs.Records.{body_of, kind_of, record_reasons}
use Rattle.exchange.specs.Scheme.{bound, error_replaced, key_digest, wrapped}
use Rattle.exchange.specs.decoder.Decoder.{bgf, failed}
use Rattle.exchange.specs.decoder.PrivateKey.{secret}
use Rattle.exchange.specs.decoder.Stopping.{fewest}
use Rattle.batch.specs.declared.contents.Gain.{Gain}
use Rattle.batch.specs.declared.records.Fault.{Fault}
use Rattle.batch.specs.declared.stop.Stop.{Stop}
use Rattle.batch.specs.declared.stop.Stop.TheVariants.{OutOfTurn}
use Rattle.batch.specs.Stops.{stop}

-- "form before turn", of the record from byte `at` on: where it ends, or its number; "0 where only records are missing,
-- out of turn or of mixed levels"
unfoldable pub turn : ℕ → ℕ → List ℕ → ℕ → Result ℕ Stop
turn thing level bytes at =
    let here = drop at bytes in
    let number = first_of (record_reasons here) in
    elim (eqb (length bytes) at) [
      | true ↦ Err OutOfTurn
      | false ↦ elim (eqb number 0) [
        | true ↦ elim (differs (kind_of here % 256) thing || differs (kind_of here / 256) level) [
          | true ↦ Err OutOfTurn
          | false ↦ Ok (at + 6 + body_of here)
        ]
        | false ↦ Err (stop number)
      ]
    ]

-- "Records are judged in file order": those that must come, by their things, the first fault ending it
unfoldable pub turns : List ℕ → ℕ → List ℕ → ℕ → Result ℕ Fault
turns [] level bytes at = Ok at
turns (thing ∷ rest) level bytes at =
    elim (turn thing level bytes at) [
      | Ok next ↦ turns rest level bytes next
      | Err stop ↦ Err (record { stop = stop; from = at })
    ]

-- "private key, public key, message; one level each"
unfoldable pub triple : List ℕ
triple = 3 ∷ 2 ∷ 5 ∷ []

unfoldable pub level_in : List ℕ → ℕ
level_in bytes = kind_of bytes / 256

-- the bodies of a whole triple
unfoldable pub key_in : Level → List ℕ → List ℕ
key_in l bytes = take (private_bytes l) (drop 6 bytes)

unfoldable pub public_in : Level → List ℕ → List ℕ
public_in l bytes = take (poly_bytes l) (drop (12 + private_bytes l) bytes)

unfoldable pub message_in : Level → List ℕ → List ℕ
message_in l bytes = take message_bytes (drop (18 + private_bytes l + poly_bytes l) bytes)

-- what the triple adds: whether the error was decoded ("answer 0 of CR 7's entry"), after how many rounds, and the
-- "replaced positions in H", the one that wrapping takes; `used` is how many bytes it has
unfoldable pub gain : Level → List ℕ → List ℕ → List ℕ → ℕ → Gain
gain l key public m used =
    let s = syndrome_of l key (wrapped l (key_digest public) (bits 8 public) m) in
    record {
      rounds = elim (failed bgf l (secret l key) s) [ true ↦ None | false ↦ Some (fewest l (secret l key) s) ];
      replaced = error_replaced l (bound (key_digest public) m);
      used = used;
    }

-- "the contents of a whole triple come last, 3 before 4": it counts, or the number stops the run
unfoldable pub contents : Level → List ℕ → List ℕ → List ℕ → ℕ → Result Gain Stop
contents l key public m used =
    let number = first_of (content_reasons l key public) in
    elim (eqb number 0) [ true ↦ Ok (gain l key public m used) | false ↦ Err (stop number) ]

-- the triple at the front of the bytes, of its first record's level
unfoldable pub judged : List ℕ → Result Gain Stop
judged bytes =
    let l = level_of (level_in bytes) in
    elim (turns triple (level_in bytes) bytes 0) [
      | Ok used ↦ contents l (key_in l bytes) (public_in l bytes) (message_in l bytes) used
      | Err fault ↦ Err fault.stop
    ]
