-- What a refusal keeps: "Here a refusal keeps the stored map and counter, no zeros." Assumes nothing.
use Rattle.std.specs.Prelude.{List, map, ℕ, zero, suc, Result, Ok, Err}
use Rattle.hashing.specs.Answers.{Reason, Outcome, first_of}
use Rattle.hashing.specs.Answers.Outcome.{gives}
use Rattle.hashing.specs.declared.refusal.Refusal.{Refusal}

-- something stored: what it held before, and what it is to hold if nothing applies
pub record Stored : Type 0 where
  pub old : List ℕ
  pub new : List ℕ

unfoldable pub holds : ℕ → Stored → List ℕ
holds zero stored = stored.new
holds (suc refusal) stored = stored.old

-- the value after 0, the old content after anything else, whatever its length
unfoldable pub keep : List Reason → List Stored → Outcome
keep reasons stored = gives (first_of reasons) (map (holds (first_of reasons)) stored)

-- the number to keep: a new one, or on a refusal the last
abbrev pub kept : ℕ → Result ℕ Refusal → ℕ
kept last (Ok new) = new
kept last (Err refusal) = last
