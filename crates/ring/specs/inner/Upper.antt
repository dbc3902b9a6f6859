-- The upper half of positions below 2r: of an error's positions those from r on belong to e1. Assumes nothing.
use Rattle.std.specs.Prelude.{true, false, List, [], ◌∷◌, ℕ, ◌-◌, leb}

-- the exponents p - r for the positions p from r on
unfoldable pub upper : ℕ → List ℕ → List ℕ
upper r [] = []
upper r (p ∷ rest) = elim (leb r p) [ true ↦ (p - r) ∷ upper r rest | false ↦ upper r rest ]
