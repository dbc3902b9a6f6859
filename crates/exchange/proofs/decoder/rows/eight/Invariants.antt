-- `eight`: the bytes of m rows are added.
use mathlib.Core.Path.{◌≡◌}
use Prim.Native.Nat.{ℕ, ◌+◌, ◌≤◌}
use lib.ListN.{get_or}
use Rattle.hashing.specs.Lists.{bit_at}
use Rattle.ring.specs.Polynomials.{parity}
use Rattle.exchange.proofs.decoder.rows.eight.Given as goal

abbrev pub invariant-loop-m : goal.invariant-loop-m
invariant-loop-m l =
    (l.m ≤ 8) × ((e : ℕ) → bit_at l.sum e ≡ parity l.m (λ m. bit_at (get_or l.f (get_or l.at m 0 + l.i) 0) e))
