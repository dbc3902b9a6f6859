-- `masks`: k masks are made.
use mathlib.Core.Path.{◌≡◌}
use mathlib.Core.Bool.{not, ◌||◌}
use Prim.Native.Nat.{ℕ, ◌≤◌, ◌<◌}
use lib.ListN.{length, get_or}
use Rattle.hashing.specs.Lists.{bit_at}
use Rattle.exchange.specs.inner.Planes.{planes}
use Rattle.exchange.proofs.decoder.planes.masks.Given as goal

-- w is the mask of digit k
abbrev pub MaskOf : ℕ → ℕ → ℕ → Type 0
MaskOf bound k w = (e : ℕ) → e < 64 → bit_at w e ≡ not (bit_at bound k || bit_at bound planes)

abbrev pub invariant-loop-k : goal.invariant-loop-k
invariant-loop-k l = (l.k ≤ planes) × (length l.clear ≡ planes) × ((j : ℕ) → j < l.k → MaskOf l.b j (get_or l.clear j 0))
