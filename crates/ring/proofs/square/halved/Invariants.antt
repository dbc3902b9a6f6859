-- `halved` goes by k's binary digits from the lowest: h has the inverse of 2^low, p that of 2^value, and value·j + low is k.
use mathlib.Core.Path.{◌≡◌}
use Prim.Native.Nat.{ℕ, ◌+◌, ◌*◌, ◌%◌, ◌^◌, ◌<◌}
use Rattle.ring.proofs.square.halved.Given as goal

-- n is the inverse of 2^e
pub record Halves (r e n : ℕ) : Type 0 where
  pub below : n < r
  pub inverts : (2 ^ e * n) % r ≡ 1

pub record Half (r k h p j : ℕ) : Type 0 where
  pub low : ℕ
  pub value : ℕ
  pub all : value * j + low ≡ k
  pub first : Halves r low h
  pub second : Halves r value p

abbrev pub invariant-loop-j : goal.invariant-loop-j
invariant-loop-j l = Half l.r l.k l.h l.p l.j

abbrev pub decreases-loop-j : goal.decreases-loop-j
decreases-loop-j l = l.j
