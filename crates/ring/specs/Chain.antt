-- The chain of products that builds a^(2^(r-1) - 2), as CR 10 has it: "with u = r − 2, build a to the power 2^u − 1 by reading u's
-- binary digits from the second highest down, one product to double the exponent's length and one more where the digit is 1; then
-- square. Squarings aren't products": k squarings are `spread r (2 ^ k)`. Assumes nothing.
use Rattle.std.specs.Prelude.{Bool, true, false, List, [], ◌∷◌, ℕ, zero, suc, ◌+◌, ◌-◌, ◌/◌, ◌^◌, ltb}
use Rattle.hashing.specs.Lists.{bit_at}
use Rattle.ring.specs.Polynomials.{Poly, mul, spread}

-- where the chain stands: a^(2^k - 1), its span k, the exponent's length, and how many products led to it
pub record Rung : Type 0 where
  pub value : Poly
  pub span : ℕ
  pub products : ℕ

unfoldable pub doubled : ℕ → Rung → Rung
doubled r e =
    record { value = mul r (spread r (2 ^ e.span) e.value) e.value; span = e.span + e.span; products = e.products + 1 }

unfoldable pub longer : ℕ → Poly → Bool → Rung → Rung
longer r a true e = record { value = mul r (spread r 2 e.value) a; span = e.span + 1; products = e.products + 1 }
longer r a false e = e

unfoldable pub climb : ℕ → Poly → Rung → List Bool → Rung
climb r a e [] = e
climb r a e (digit ∷ rest) = climb r a (longer r a digit (doubled r e)) rest

-- the n lowest binary digits of u, from the highest of them down
unfoldable pub digits : ℕ → ℕ → List Bool
digits zero u = []
digits (suc n) u = bit_at u n ∷ digits n u

-- the place of u's highest binary digit: how often u is halved until 1 is left, which takes fewer than u steps
unfoldable pub halvings : ℕ → ℕ → ℕ
halvings zero u = 0
halvings (suc steps) u = elim (ltb u 2) [ true ↦ 0 | false ↦ suc (halvings steps (u / 2)) ]

unfoldable pub top : ℕ → ℕ
top u = halvings u u

unfoldable pub climbed : ℕ → Poly → Rung
climbed r a = climb r a (record { value = a; span = 1; products = 0 }) (digits (top (r - 2)) (r - 2))

unfoldable pub chain : ℕ → Poly → Poly
chain r a = spread r 2 (climbed r a).value

-- "the count reported has passed through them all"
unfoldable pub chain_products : ℕ → Poly → ℕ
chain_products r a = (climbed r a).products
