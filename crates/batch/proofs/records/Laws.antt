-- A turn of the loop over records that must come. Assumes nothing.
use mathlib.Core.Path.{◌≡◌}
use mathlib.Core.List.{List, ◌∷◌}
use Prim.Native.Nat.{ℕ}
use Rattle.std.proofs.Common.{Ok, Err}
use Rattle.batch.specs.Triples.{turn, turns}
use Rattle.batch.specs.declared.stop.Stop.{Stop}

module _ (thing : ℕ) (things : List ℕ) (level : ℕ) (bytes : List ℕ) (at : ℕ) where
  pub next_whole : (end : ℕ) → Ok end ≡ turn thing level bytes at
      → turns things level bytes end ≡ turns (thing ∷ things) level bytes at
  unfolding turns
  next_whole end is = rw (← is, turns)

  pub next_faulty : (stop : Stop) → Err stop ≡ turn thing level bytes at
      → Err (record { stop = stop; from = at }) ≡ turns (thing ∷ things) level bytes at
  unfolding turns
  next_faulty stop is = rw (← is, turns)
