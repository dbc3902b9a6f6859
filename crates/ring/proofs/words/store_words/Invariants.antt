-- `words::store_words` meets its contract: i words are written. Assumes nothing.
use mathlib.Core.Path.{◌≡◌}
use mathlib.Core.List.{List, ◌++◌}
use Prim.Native.Nat.{ℕ, ◌+◌, ◌*◌, ◌≤◌}
use lib.ListN.{length, drop}
use Rattle.hashing.specs.Lists.{tab, bits}
use Rattle.ring.specs.Bytes.{number}
use Rattle.ring.proofs.words.store_words.Given as goal

-- byte k of the words
abbrev pub byte : List ℕ → ℕ → ℕ
byte a k = number 8 (λ e. bits 64 a (k * 8 + e))

abbrev pub invariant-loop-i : goal.invariant-loop-i
invariant-loop-i l = (l.i ≤ l.n) × (length l.out ≡ length l.initial.out) × (l.out ≡ tab (8 * l.i) (byte l.a) ++ drop (8 * l.i) l.initial.out)
