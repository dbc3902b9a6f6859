-- `search` passes words over: before turn i those from `from` to i; inside a turn, the position is not among the first k listed.
use mathlib.Core.Path.{◌≡◌}
use mathlib.Core.Bool.{false}
use Prim.Native.Nat.{ℕ, ◌-◌, ◌≤◌, ◌<◌}
use lib.Bits.{bit_and}
use lib.ListN.{length, get_or, take}
use Rattle.ring.specs.Polynomials.{listed}
use Rattle.exchange.specs.Fair.{taken}
use Rattle.exchange.proofs.fair.search.Given as goal

abbrev pub invariant-loop-k : goal.invariant-loop-k
invariant-loop-k l = (l.k ≤ length l.list) × (listed l.pos (take l.k l.list) ≡ false)

abbrev pub decreases-loop-k : goal.decreases-loop-k
decreases-loop-k l = length l.list - l.k

abbrev pub invariant-words : goal.invariant-words
invariant-words l =
    (l.from ≤ l.i) × (l.i ≤ length l.words) × ((j : ℕ) → j < l.i → l.from ≤ j → taken l.r (bit_and (get_or l.words j 0) l.mask) l.list ≡ false)

abbrev pub decreases-words : goal.decreases-words
decreases-words l = length l.words - l.i
