-- `words::end_word` meets its contract: the bytes from m on are taken. Assumes nothing.
use mathlib.Core.Path.{◌≡◌}
use Prim.Native.Nat.{ℕ, ◌+◌, ◌-◌, ◌*◌, ◌<◌}
use Rattle.hashing.specs.Lists.{bit_at, bits}
use Rattle.ring.proofs.words.end_word.Given as goal

abbrev pub invariant-loop-m : goal.invariant-loop-m
invariant-loop-m l = (e : ℕ) → e < 64 - 8 * l.m → bit_at l.w e ≡ bits 8 l.b (8 * (l.at + l.m) + e)
