-- Each public entry's promise admits one outcome. Assumes nothing.
use mathlib.Core.Path.{◌≡◌}
use mathlib.Core.List.{List}
use Prim.Native.Nat.{ℕ}
use Rattle.hashing.specs.Promises.{Shake256Promise, Sha3_384Promise}
use Rattle.hashing.proofs.Answers.{one_output}

pub shake256_just_one : (M : List ℕ) (room : ℕ) {r r' : ℕ} {out out' : List ℕ}
    → Shake256Promise M room r out → Shake256Promise M room r' out' → (r ≡ r') × (out ≡ out')
shake256_just_one M room = one_output

pub sha3_384_just_one : (M : List ℕ) (room : ℕ) {r r' : ℕ} {out out' : List ℕ}
    → Sha3_384Promise M room r out → Sha3_384Promise M room r' out' → (r ≡ r') × (out ≡ out')
sha3_384_just_one M room = one_output
