-- `is_zero` joins all words: after so many words the rest is 0 exactly if they are.
use mathlib.Core.Path.{◌≡◌}
use mathlib.Core.Bool.{false}
use Prim.Native.Nat.{ℕ, ◌≤◌, ◌<◌}
use lib.ListN.{length, get_or}
use Rattle.hashing.specs.Lists.{bits}
use Rattle.ring.proofs.frame.is_zero.Given as goal

abbrev pub invariant-loop-word : goal.invariant-loop-word
invariant-loop-word l =
    (l.word-index ≤ length l.x) × (l.rest ≡ 0 → (j : ℕ) → j < l.word-index → get_or l.x j 0 ≡ 0) × (bits 64 l.x ≡ (λ k. false) → l.rest ≡ 0)
