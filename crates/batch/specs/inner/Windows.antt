-- A window of the input: what the bytes at hand tell of the whole. The public promise cites `enough` alone.
-- Assumes nothing.
use Rattle.std.specs.Prelude.{◌≡◌, true, false, List, ℕ, ◌+◌, ◌-◌, ◌≤◌, ◌<◌, eqb, length, drop, Result, Ok, Err, IfSome, Bool}
use Rattle.ring.specs.inner.Sizes.{most_ciphertext_bytes}
use Rattle.exchange.specs.Records.{body_of, kind_of, known_kind}
use Rattle.hashing.specs.declared.refusal.Refusal.TheVariants.{UnknownKind, WrongBody}
use Rattle.batch.specs.Report.{waited}
use Rattle.batch.specs.Stops.{number}
use Rattle.batch.specs.declared.contents.Gain.{Gain}
use Rattle.batch.specs.declared.records.Fault.{Fault}
use Rattle.batch.specs.declared.stop.Stop.{Stop}
use Rattle.batch.specs.declared.stop.Stop.TheVariants.{Refused}
use Rattle.batch.specs.declared.stop.Pending.{Pending}
use Rattle.batch.specs.declared.triple.Look.{Look}
use Rattle.batch.specs.declared.triple.Look.TheVariants.{Known, Waits}

-- no record of a known kind is longer; with `enough` bytes at hand, no triple needs more to be judged
abbrev pub most_body : ℕ
most_body = most_ciphertext_bytes

abbrev pub most_record : ℕ
most_record = 6 + most_body

abbrev pub enough : ℕ
enough = 16384

-- the bytes at hand are enough, or all that come
abbrev pub Suffices : ℕ → Bool → Type 0
Suffices have ended = ended ≡ false → enough ≤ have

-- of a record at `from` whose stated length runs past the bytes at hand: the bytes that are missing, and what stops the
-- run once they have come
unfoldable pub missing : List ℕ → ℕ → ℕ
missing bytes from = 6 + body_of (drop from bytes) - length (drop from bytes)

unfoldable pub too_long : ℕ → Stop
too_long kind = elim (known_kind kind) [ true ↦ Refused WrongBody | false ↦ Refused UnknownKind ]

unfoldable pub beyond : List ℕ → ℕ → Pending
beyond bytes from = record { missing = missing bytes from; stop = too_long (kind_of (drop from bytes)) }

-- what a run over the bytes at hand is once the rest has come: only a cut record, a 7, may change
unfoldable pub stop_later : List ℕ → ℕ → List ℕ → Stop → Stop
stop_later bytes from rest stop = elim (eqb (number stop) 7) [ true ↦ waited (beyond bytes from) rest | false ↦ stop ]

unfoldable pub later : List ℕ → List ℕ → Result ℕ Fault → Result ℕ Fault
later bytes rest (Ok end) = Ok end
later bytes rest (Err fault) = Err (record { stop = stop_later bytes fault.from rest fault.stop; from = fault.from })

-- what a look at the bytes at hand means once the rest has come
unfoldable pub meant : Look → List ℕ → Result Gain Stop
meant (Known judged) rest = judged
meant (Waits wait) rest = Err (waited wait rest)

-- a gain is of a triple at hand, and too small to overflow a total
abbrev pub Small : ℕ → Gain → Type 0
Small n gain = (0 < gain.used) × (gain.used ≤ n) × IfSome gain.rounds (λ k. k < 6) × (gain.replaced ≤ 264)

abbrev pub Within : ℕ → Look → Type 0
Within n look = (gain : Gain) → look ≡ Known (Ok gain) → Small n gain
