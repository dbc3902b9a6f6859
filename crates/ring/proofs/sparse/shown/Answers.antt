-- `shown` joins two words in a row.
use mathlib.Core.Path.{◌≡◌, ap, ◌∙◌}
use Prim.Native.Nat.{ℕ, ◌+◌, ◌*◌, ◌/◌, ◌%◌}
use native.Mathlib.Omega.{arith}
use Rattle.hashing.specs.Lists.{bits}
use Rattle.ring.proofs.sparse.Laws.{pair_bits}
use Rattle.ring.proofs.sparse.shown.Goals as goal

pub returns : goal.returns
returns c =
    let given = c.args in
    let from = given.from in
    let at : ℕ = from / 64 + given.i in
    λ e below.
    let place : 64 * at + (from % 64 + e) ≡ from + (64 * given.i + e) = omega arith in
    c.join.ensures e below ∙ pair_bits given.d.now at (from % 64 + e) (omega arith) ∙ ap (bits 64 given.d.now) place
