-- `add_windows` adds word by word: before turn i the words below i have their windows, and the others are as they came.
use mathlib.Core.Path.{◌≡◌, refl, sym, ap₂, ◌∙◌}
use Prim.Native.Nat.{ℕ, ◌+◌, ◌*◌, ◌<◌}
use native.Mathlib.Omega.{arith}
use lib.Bits.{bit_xor}
use lib.ListN.{get_or, length-set}
use Rattle.hashing.specs.Lists.{bit_at, bits}
use Rattle.hashing.proofs.Words.{bits_at}
use Rattle.ring.specs.Polynomials.{flip}
use Rattle.ring.proofs.Packed.{bit-flip, fill_below, fill_above}
use Rattle.ring.proofs.sparse.add_windows.Goals as goal
use Rattle.ring.proofs.sparse.add_windows.Invariants.{summed}

pub loop-i-preserved : goal.loop-i-preserved
loop-i-preserved c =
    let was = c.loop-i in
    let given = c.args in
    let y₀ = given.y.now in
    let word : ℕ = bit_xor (get_or was.y was.i 0) c.eight.result in
    let added : (e : ℕ) → e < 64 → bit_at word e ≡ summed y₀ given.d.now given.from (64 * was.i + e) =
    λ e below.
    bit-flip (get_or was.y was.i 0) c.eight.result e
    ∙ ap₂ flip (sym (bits_at 64 was.y was.i e refl below) ∙ was.invariant.3 (64 * was.i + e) (omega arith)) (c.eight.ensures e below) in (
      omega arith,
      length-set was.y was.i word ∙ was.invariant.1,
      fill_below was.y was.i word (summed y₀ given.d.now given.from) (omega arith) was.invariant.2 added,
      fill_above was.y was.i word (bits 64 y₀) was.invariant.3,
    )
