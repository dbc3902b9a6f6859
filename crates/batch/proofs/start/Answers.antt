-- `start` has no triple, and goes on: the default totals are all 0.
use mathlib.Core.Path.{◌≡◌}
use mathlib.Core.List.{List}
use Prim.Native.Nat.{ℕ}
use native.Mathlib.Omega.{arith}
use Rattle.std.specs.Array.{AllOfLen}
use lib.Seq.{ext_get_or}
use Rattle.batch.specs.Report.{none}
use Rattle.batch.proofs.Soundness.{none_sound}
use Rattle.batch.proofs.start.Goals as goal

zeros : (xs : List ℕ) → AllOfLen (λ (n : ℕ). n ≡ 0) xs 6 → xs ≡ none.decoded
unfolding none
zeros xs all = ext_get_or 0 xs none.decoded all.long (λ k below. omega (arith, all.at k 0 (omega (arith, all.long)), none_sound.decoded_few k))

pub returns-clause-fact_1 : goal.returns-clause-fact_1
unfolding none
returns-clause-fact_1 c =
    let empty = c.default.ensures in
    let decoded = zeros c.default.result.decoded empty.1.0 in
    let is : c.default.result ≡ none =
    λ i. record { triples = empty.0 i; decoded = decoded i; undecoded = empty.1.1.0 i; replaced = empty.1.1.1 i } in
    rw is
