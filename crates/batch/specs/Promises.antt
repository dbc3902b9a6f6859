-- CR 8: what a turn of the count promises. Assumes nothing.
use Rattle.std.specs.Prelude.{◌≡◌, Bool, true, false, List, [], ◌++◌, ℕ, ◌+◌, ◌*◌, ◌-◌, ◌^◌, ◌≤◌, ◌<◌, length, get_or, take}
use Rattle.batch.specs.Report.{most_triples, resume}
use Rattle.batch.specs.declared.Turned.{Turned}
use Rattle.batch.specs.declared.totals.Count.{Count}
use Rattle.batch.specs.declared.totals.Going.TheVariants.{On, Waiting, Ended, Stopped}
use Rattle.batch.specs.declared.totals.Totals.{Totals}
use Rattle.batch.specs.inner.Windows.{enough}

-- no total overflows: none is above what so many triples can add to it
pub record Sound (totals : Totals) : Type 0 where
  pub few : totals.triples ≤ most_triples
  pub decoded_few : (k : ℕ) → get_or totals.decoded k 0 ≤ totals.triples
  pub undecoded_few : totals.undecoded ≤ totals.triples
  pub replaced_few : totals.replaced ≤ 264 * totals.triples

-- whether more bytes are asked for
unfoldable pub goes_on : Count → Bool
goes_on count = elim count.going [ On ↦ true | Waiting wait ↦ true | Ended ↦ false | Stopped stop ↦ false ]

-- how far a count is from its end at most: the triples that it may still count, or the bytes that it waits for
unfoldable pub to_go : Count → ℕ
to_go count =
    elim count.going [
      | On ↦ 2 ^ 64 + 1 + most_triples - count.totals.triples
      | Waiting wait ↦ wait.missing + 1
      | Ended ↦ 0
      | Stopped stop ↦ 0
    ]

-- a turn over the first `have` bytes of a window, all that come if `ended`; `after` is the window then
pub record Turns (count : Count) (window : List ℕ) (have : ℕ) (ended : Bool) (after : List ℕ) (to : Turned) : Type 0 where
  -- the count comes to the same, whatever bytes still come
  pub same : (rest : List ℕ) → (ended ≡ true → rest ≡ [])
      → resume count (take have window ++ rest) ≡ resume to.count (take to.have after ++ rest)
  pub sound : Sound to.count.totals
  pub within : to.have ≤ length after
  -- a count that still goes on wants more bytes than are left
  pub wants : goes_on to.count ≡ true → (ended ≡ false) × (to.have < enough)
  -- and one over enough bytes, or all that come, is nearer to its end
  pub nearer : goes_on count ≡ true → (ended ≡ false → enough ≤ length (take have window)) → to_go to.count < to_go count
