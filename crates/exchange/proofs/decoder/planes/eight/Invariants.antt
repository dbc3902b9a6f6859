-- `eight`: the words of m rows are read.
use mathlib.Core.Path.{◌≡◌}
use mathlib.Core.List.{List}
use Prim.Native.Nat.{ℕ, ◌+◌, ◌*◌, ◌≤◌, ◌<◌}
use lib.ListN.{length, get_or}
use Rattle.hashing.specs.Lists.{bit_at, bits}
use Rattle.exchange.proofs.decoder.planes.eight.Given as goal

-- w is word i of row m
abbrev pub WordOf : List ℕ → List ℕ → ℕ → ℕ → ℕ → ℕ → Type 0
WordOf f starts k i m w = (e : ℕ) → e < 64 → bit_at w e ≡ bits 8 f (8 * get_or starts (k + m) 0 + (64 * i + e))

abbrev pub invariant-loop-m : goal.invariant-loop-m
invariant-loop-m l = (l.m ≤ 8) × (length l.x ≡ 8) × ((j : ℕ) → j < l.m → WordOf l.f l.starts l.k l.i j (get_or l.x j 0))
