-- What stops a run is known from its number. Assumes nothing.
use mathlib.Core.Path.{◌≡◌, refl, sym, ap, ◌∙◌}
use borrow.Author.Tests.{ne_eqb}
use Rattle.hashing.specs.Refusals as refusals
use Rattle.hashing.proofs.Answers.{numbered}
use Rattle.exchange.proofs.record.Laws.{refusal_of_number}
use Rattle.batch.specs.Stops.{number, stop}
use Rattle.batch.specs.declared.stop.Stop.{Stop}
use Rattle.batch.specs.declared.stop.Stop.TheVariants.{OutOfTurn, Refused}

pub stop_number : (s : Stop) → stop (number s) ≡ s
unfolding stop
stop_number OutOfTurn = refl
stop_number (Refused refusal) =
    rw (stop, ne_eqb (refusals.number refusal) 0 (numbered refusal)) (ap Refused (refusal_of_number refusal))

pub known_by : (s t : Stop) → number s ≡ number t → s ≡ t
known_by s t e = sym (stop_number s) ∙ ap stop e ∙ stop_number t
