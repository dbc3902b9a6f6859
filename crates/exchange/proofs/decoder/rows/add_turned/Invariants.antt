-- `add_turned`: before each pass the rows of the earlier ones are added; those past the last position are empty.
use mathlib.Core.Path.{◌≡◌}
use mathlib.Core.Bool.{Bool}
use mathlib.Core.List.{List}
use Prim.Native.Nat.{ℕ, ◌+◌, ◌*◌, ◌/◌, ◌≤◌, ◌<◌}
use Rattle.hashing.specs.Lists.{bits}
use Rattle.ring.specs.Polynomials.{flip, parity}
use Rattle.exchange.specs.inner.ByteRows.{turned_row}
use Rattle.exchange.proofs.decoder.rows.add_turned.Given as goal

-- what row i adds to bit k
abbrev pub adds : ℕ → List ℕ → ℕ → List ℕ → ℕ → ℕ → Bool
adds r positions d f k i = bits 8 f (8 * turned_row r positions d i + k)

abbrev pub invariant-loop-pass : goal.invariant-loop-pass
invariant-loop-pass l =
    (l.pass ≤ (l.d + 7) / 8)
    × ((k : ℕ) → k < 8 * (32 * (l.r / 256 + 1)) → bits 8 l.z k ≡ flip (bits 8 l.initial.z k) (parity (8 * l.pass) (adds l.r l.positions l.d l.rows.bytes k)))
