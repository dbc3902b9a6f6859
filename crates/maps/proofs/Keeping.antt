-- Laws of what is kept. Assumes nothing.
use mathlib.Core.Path.{◌≡◌, refl}
use mathlib.Core.List.{List, [], ◌∷◌, map}
use Prim.Native.Nat.{ℕ, zero, suc}
use Rattle.hashing.specs.Answers.{Reason, Outcome, first_of}
use Rattle.hashing.specs.Answers.Outcome.{gives}
use Rattle.hashing.proofs.Answers.{two_outputs}
use Rattle.maps.specs.Keeping.{Stored, holds, keep}

module _ (reasons : List Reason) (stored : List Stored) where
  pub goes_in : first_of reasons ≡ 0 → keep reasons stored ≡ gives 0 (map (λ (s : Stored). s.new) stored)
  unfolding keep holds
  goes_in none = rw none

  pub stays : {answer : ℕ} → answer ≡ first_of reasons → (answer ≡ 0 → ⊥)
      → keep reasons stored ≡ gives answer (map (λ (s : Stored). s.old) stored)
  unfolding keep holds
  stays {answer} first some = rw (← first) (go answer some)
    where
      go : (n : ℕ) → (n ≡ 0 → ⊥) → gives n (map (holds n) stored) ≡ gives n (map (λ (s : Stored). s.old) stored)
      go zero some = absurd (some refl)
      go (suc n) some = refl

-- an answer, a map and a counter: a promise admits just one
pub one_kept : {said : Outcome} {r r' : ℕ} {stored stored' : List ℕ} {counter counter' : ℕ}
    → gives r (stored ∷ (counter ∷ []) ∷ []) ≡ said → gives r' (stored' ∷ (counter' ∷ []) ∷ []) ≡ said
    → (r ≡ r') × (stored ≡ stored') × (counter ≡ counter')
one_kept p q = let same = two_outputs p q in (same.0, same.1, cc)
