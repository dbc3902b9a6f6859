-- What stops a run, by the documents' numbers. Assumes nothing.
use Rattle.std.specs.Prelude.{true, false, ℕ, eqb}
use Rattle.hashing.specs.Refusals as refusals
use Rattle.exchange.specs.Records.{refusal_of}
use Rattle.batch.specs.declared.stop.Stop.{Stop}
use Rattle.batch.specs.declared.stop.Stop.TheVariants.{OutOfTurn, Refused}

-- "0 where only records are missing, out of turn or of mixed levels", else the refusal's
abbrev pub number : Stop → ℕ
number OutOfTurn = 0
number (Refused refusal) = refusals.number refusal

-- and what has a number, which is `number` read backwards (`stop_number`, proofs/Stops.antt)
unfoldable pub stop : ℕ → Stop
stop n = elim (eqb n 0) [ true ↦ OutOfTurn | false ↦ Refused (refusal_of n) ]
