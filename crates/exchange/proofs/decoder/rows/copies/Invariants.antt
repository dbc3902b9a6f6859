-- `copies`: before turn i the copies have their first i bytes, and before turn s of it those below s have byte i too. Neither
-- the first copy nor the zeros are touched.
use mathlib.Core.Path.{◌≡◌}
use mathlib.Core.List.{List, ◌∷◌, []}
use Prim.Native.Nat.{ℕ, ◌+◌, ◌*◌, ◌≤◌, ◌<◌}
use lib.ListN.{get_or}
use Rattle.hashing.specs.Lists.{bit_at, bits}
use Rattle.exchange.specs.inner.ByteRows.{row_bytes, empty_row}
use Rattle.exchange.proofs.decoder.rows.copies.Given as goal

pub record Copied (f₀ f : List ℕ) (i : ℕ) : Type 0 where
  pub copy : (s j e : ℕ) → 0 < s → s < 8 → j < i → e < 8 → bit_at (get_or f (s * row_bytes + j) 0) e ≡ bits 8 f₀ (8 * j + (s + e))
  pub first : (k : ℕ) → k < row_bytes → get_or f k 0 ≡ get_or f₀ k 0
  pub zeros : (k : ℕ) → empty_row ≤ k → get_or f k 0 ≡ get_or f₀ k 0

-- byte i of the copies below n, from two bytes of the first
pub record Laid (f₀ f : List ℕ) (i low high n : ℕ) : Type 0 where
  pub few : n ≤ 8
  pub here : (s e : ℕ) → 0 < s → s < n → e < 8 → bit_at (get_or f (s * row_bytes + i) 0) e ≡ bits 8 (low ∷ high ∷ []) (s + e)
  pub other : (k : ℕ) → ((s : ℕ) → 0 < s → s < n → k ≡ s * row_bytes + i → ⊥) → get_or f k 0 ≡ get_or f₀ k 0

abbrev pub invariant-loop-i : goal.invariant-loop-i
invariant-loop-i l = (l.i ≤ l.n) × Copied l.initial.f l.f l.i

abbrev pub invariant-loop-s : goal.invariant-loop-s
invariant-loop-s l = Laid l.initial.f l.f l.i l.low l.high l.s
