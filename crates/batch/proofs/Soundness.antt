-- No total overflows: the totals at the start are sound, and a triple that is counted keeps them so. Assumes nothing.
use mathlib.Core.Path.{◌≡◌}
use mathlib.Core.List.{List}
use Prim.Native.Nat.{ℕ, zero, suc, ◌+◌, ◌≤◌, ◌<◌}
use native.Mathlib.Decide.{dec_lt, ℕ_discrete}
use native.Mathlib.Omega.{arith}
use Rattle.std.proofs.Common.{Option, Some, None}
use lib.ListN.{length, get_or, set}
use lib.Seq.{set_out, get_or-set_same, get_or-set_other}
use Rattle.batch.specs.Promises.{Sound}
use Rattle.batch.specs.Report.{most_triples, none, added}
use Rattle.batch.specs.declared.contents.Gain.{Gain}
use Rattle.batch.specs.declared.totals.Totals.{Totals}
use Rattle.batch.specs.inner.Steps.{Light}

pub none_sound : Sound none
unfolding none
none_sound =
    record {
      few = omega arith;
      decoded_few = zeros;
      undecoded_few = omega arith;
      replaced_few = omega arith;
    }
  where
    zeros : (k : ℕ) → get_or none.decoded k 0 ≤ 0
    zeros zero = omega arith
    zeros (suc zero) = omega arith
    zeros (suc (suc zero)) = omega arith
    zeros (suc (suc (suc zero))) = omega arith
    zeros (suc (suc (suc (suc zero)))) = omega arith
    zeros (suc (suc (suc (suc (suc zero))))) = omega arith
    zeros (suc (suc (suc (suc (suc (suc k)))))) = omega arith

one_more : (xs : List ℕ) (n i : ℕ) → ((k : ℕ) → get_or xs k 0 ≤ n) → (k : ℕ) → get_or (set xs i (get_or xs i 0 + 1)) k 0 ≤ n + 1
one_more xs n i most k = go (ℕ_discrete k i) (dec_lt i (length xs))
  where
    go : Dec (k ≡ i) → Dec (i < length xs) → get_or (set xs i (get_or xs i 0 + 1)) k 0 ≤ n + 1
    go (yes same) (yes inside) = rw (same, get_or-set_same xs i (get_or xs i 0 + 1) 0 inside) (omega (arith, most i))
    go (yes same) (no outside) = rw (set_out xs i (get_or xs i 0 + 1) (omega arith)) (omega (arith, most k))
    go (no other) _ = rw (get_or-set_other xs i k (get_or xs i 0 + 1) 0 other) (omega (arith, most k))

pub added_sound : (totals : Totals) (gain : Gain) → Sound totals → totals.triples < most_triples → Light gain → Sound (added totals gain)
unfolding added
added_sound totals gain sound few light =
    record {
      few = omega arith;
      decoded_few = decoded gain.rounds;
      undecoded_few = undecoded gain.rounds;
      replaced_few = omega (arith, sound.replaced_few, light.1);
    }
  where
    decoded : (rounds : Option ℕ) (k : ℕ)
        → get_or (elim rounds [ Some i ↦ set totals.decoded i (get_or totals.decoded i 0 + 1) | None ↦ totals.decoded ]) k 0 ≤ totals.triples + 1
    decoded None k = omega (arith, sound.decoded_few k)
    decoded (Some i) k = one_more totals.decoded totals.triples i sound.decoded_few k

    undecoded : (rounds : Option ℕ) → elim rounds [ Some i ↦ totals.undecoded | None ↦ totals.undecoded + 1 ] ≤ totals.triples + 1
    undecoded None = omega (arith, sound.undecoded_few)
    undecoded (Some i) = omega (arith, sound.undecoded_few)
