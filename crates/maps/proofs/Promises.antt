-- The promise of each entry admits just one outcome. Assumes nothing.
use mathlib.Core.Path.{◌≡◌}
use mathlib.Core.List.{List}
use Prim.Native.Nat.{ℕ}
use Rattle.hashing.proofs.Answers.{one_output}
use Rattle.maps.specs.Promises.{WriteMapPromise, AcceptMapPromise}
use Rattle.maps.proofs.Keeping.{one_kept}

pub write_map_just_one : (level : ℕ) (key : List ℕ) (kart counter : ℕ) (map : List ℕ) (room : ℕ) {r r' : ℕ} {bytes bytes' : List ℕ}
    → WriteMapPromise level key kart counter map room r bytes → WriteMapPromise level key kart counter map room r' bytes'
    → (r ≡ r') × (bytes ≡ bytes')
write_map_just_one level key kart counter map room = one_output

pub accept_map_just_one : (level : ℕ) (key : List ℕ) (kart : ℕ) (bytes map : List ℕ) (last : ℕ) {r r' : ℕ} {stored stored' : List ℕ} {counter counter' : ℕ}
    → AcceptMapPromise level key kart bytes map last r stored counter → AcceptMapPromise level key kart bytes map last r' stored' counter'
    → (r ≡ r') × (stored ≡ stored') × (counter ≡ counter')
accept_map_just_one level key kart bytes map last = one_kept
