-- `lay_word` goes byte by byte: before turn j the bits of j bytes are laid out.
use mathlib.Core.Path.{◌≡◌}
use mathlib.Core.Logic.{◌⊎◌}
use Prim.Native.Nat.{ℕ, ◌+◌, ◌*◌, ◌≤◌, ◌<◌}
use lib.ListN.{length, get_or}
use Rattle.hashing.specs.Lists.{bit_at}
use Rattle.ring.specs.Polynomials.{bit}
use Rattle.ring.proofs.unpack.lay_word.Given as goal

abbrev pub invariant-loop-j : goal.invariant-loop-j
invariant-loop-j l =
    (l.j ≤ 8) × (length l.out ≡ length l.initial.out) × ((k : ℕ) → k < 8 * l.j → get_or l.out (l.at + k) 0 ≡ bit (bit_at l.w k))
    × ((k : ℕ) → (k < l.at) ⊎ (l.at + 8 * l.j ≤ k) → get_or l.out k 0 ≡ get_or l.initial.out k 0)
