-- `multiply::add` meets its contract: i words are done. Assumes nothing.
use mathlib.Core.Path.{◌≡◌}
use Prim.Native.Nat.{ℕ, ◌+◌, ◌*◌, ◌≤◌, ◌<◌}
use lib.ListN.{length, get_or}
use Rattle.hashing.specs.Lists.{bit_at, bits}
use Rattle.ring.specs.Polynomials.{flip}
use Rattle.ring.specs.inner.Wide.{Outside}
use Rattle.ring.proofs.multiply.add.Given as goal

abbrev pub invariant-loop-i : goal.invariant-loop-i
invariant-loop-i l =
    (l.i ≤ length l.m) × (length l.c ≡ length l.initial.c) × Outside l.at l.i l.initial.c l.c
    × ((q : ℕ) → q < l.i → (e : ℕ) → e < 64
    → bit_at (get_or l.c (l.at + q) 0) e ≡ flip (bits 64 l.initial.c (64 * l.at + (64 * q + e))) (bits 64 l.m (64 * q + e)))
