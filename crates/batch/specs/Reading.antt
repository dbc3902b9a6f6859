-- CR 8: an input that comes in pieces, however it is cut: `read_reports` of proofs/Reading.antt says that what is counted is
-- the report of the pieces joined. Assumes nothing.
use Rattle.std.specs.Prelude.{◌≡◌, Bool, true, false, List, [], ◌++◌, ℕ, take}
use Rattle.batch.specs.Promises.{goes_on, Turns}
use Rattle.batch.specs.declared.Turned.{Turned}
use Rattle.batch.specs.declared.totals.Count.{Count}

-- a count holds some bytes and gets the rest of an input, a piece before each turn, up to its end
pub data Read : Count → List ℕ → List ℕ → Count → Type 0 where
  stopped : {count : Count} (held input : List ℕ) → goes_on count ≡ false → Read count held input count
  turned : {count to : Count} {held input : List ℕ} (piece window after : List ℕ) (have : ℕ) (ended : Bool) (turn : Turned)
      → take have window ≡ held ++ piece → (ended ≡ true → input ≡ []) → Turns count window have ended after turn
      → Read turn.count (take turn.have after) input to → Read count held (piece ++ input) to
