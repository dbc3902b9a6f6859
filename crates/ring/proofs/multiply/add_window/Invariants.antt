-- `multiply::add_window` meets its contract: 7 words of a are done in each pass. Assumes nothing.
use mathlib.Core.Path.{◌≡◌}
use Prim.Native.Nat.{ℕ, ◌*◌}
use lib.ListN.{length}
use Rattle.hashing.specs.Lists.{bits}
use Rattle.ring.specs.Polynomials.{Poly, InRing, flip, parity}
use Rattle.ring.specs.inner.Wide.{shifted, Multiples}
use Rattle.ring.proofs.multiply.Laws.{picked}
use Rattle.ring.proofs.multiply.add_window.Given as goal

abbrev pub invariant-loop-pass : goal.invariant-loop-pass
invariant-loop-pass l =
    (length l.x ≡ length l.initial.x)
    × ((b : Poly) → Multiples b 32 l.t → InRing (64 * l.n) b → (k : ℕ)
    → bits 64 l.x k ≡ flip (bits 64 l.initial.x k) (parity (7 * l.pass) (λ j. shifted (64 * j) (picked l.a l.w b j) k)))
