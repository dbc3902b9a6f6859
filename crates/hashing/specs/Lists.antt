-- Lists given element by element, and numbers read bit by bit. Assumes nothing.
use Rattle.std.specs.Prelude.{Bool, List, [], ◌∷◌, ◌++◌, ℕ, zero, suc, ◌/◌, ◌%◌, ◌^◌, eqb, get_or}

-- f 0, f 1, .., f (n - 1)
unfoldable pub tab {ℓ} : {A : Type ℓ} → ℕ → (ℕ → A) → List A
tab zero f = []
tab (suc n) f = tab n f ++ (f n ∷ [])

-- bit k of a number, bit 0 the lowest
unfoldable pub bit_at : ℕ → ℕ → Bool
bit_at x k = eqb (x / 2 ^ k % 2) 1

-- bit k of a list of numbers of w bits each: bit k mod w of element k div w
unfoldable pub bits : ℕ → List ℕ → ℕ → Bool
bits w xs k = bit_at (get_or xs (k / w) 0) (k % w)
