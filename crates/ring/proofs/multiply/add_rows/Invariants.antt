-- `multiply::add_rows` meets its contract: i words are done. Assumes nothing.
use mathlib.Core.Path.{◌≡◌}
use Prim.Native.Nat.{ℕ, ◌+◌, ◌*◌, ◌≤◌, ◌<◌}
use lib.ListN.{length, get_or}
use Rattle.hashing.specs.Lists.{bit_at, bits}
use Rattle.ring.specs.Polynomials.{flip, parity}
use Rattle.ring.specs.inner.Wide.{Outside}
use Rattle.ring.proofs.multiply.add_rows.Given as goal

abbrev pub invariant-loop-i : goal.invariant-loop-i
invariant-loop-i l =
    (l.i ≤ l.len) × (length l.x ≡ length l.initial.x) × Outside l.j l.i l.initial.x l.x
    × ((q : ℕ) → q < l.i → (e : ℕ) → e < 64 → bit_at (get_or l.x (l.j + q) 0) e
    ≡ flip (bits 64 l.initial.x (64 * l.j + (64 * q + e))) (parity 7 (λ m. bits 64 l.t (64 * get_or l.o m 0 + (64 * q + e)))))
