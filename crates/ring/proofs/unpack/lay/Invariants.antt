-- `lay` goes word by word: before turn i the bits of i words are laid out.
use mathlib.Core.Path.{◌≡◌}
use Prim.Native.Nat.{ℕ, ◌*◌, ◌≤◌, ◌<◌}
use lib.ListN.{length, get_or}
use Rattle.hashing.specs.Lists.{bits}
use Rattle.ring.specs.Polynomials.{bit}
use Rattle.ring.proofs.unpack.lay.Given as goal

abbrev pub invariant-loop-i : goal.invariant-loop-i
invariant-loop-i l =
    (l.i ≤ l.n) × (length l.out ≡ length l.initial.out) × ((k : ℕ) → k < 64 * l.i → get_or l.out k 0 ≡ bit (bits 64 l.x k))
    × ((k : ℕ) → 64 * l.i ≤ k → get_or l.out k 0 ≡ get_or l.initial.out k 0)
