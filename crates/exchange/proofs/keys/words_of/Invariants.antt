-- `words_of`: before turn i the first i words are read.
use mathlib.Core.Path.{◌≡◌}
use mathlib.Core.List.{List, ◌++◌}
use Prim.Native.Nat.{ℕ, ◌*◌, ◌≤◌}
use lib.ListN.{length, take, drop}
use Rattle.hashing.specs.Lists.{tab}
use Rattle.ring.specs.Bytes.{little_endian}
use Rattle.exchange.specs.Scheme.{key_words}
use Rattle.exchange.proofs.keys.words_of.Given as goal

-- word i of a stream
unfoldable pub word : List ℕ → ℕ → ℕ
word bytes i = little_endian (take 4 (drop (4 * i) bytes))

abbrev pub invariant-loop-i : goal.invariant-loop-i
invariant-loop-i l = (l.i ≤ key_words) × (length l.words ≡ key_words) × (l.words ≡ tab l.i (word l.bytes) ++ drop l.i l.initial.words)
