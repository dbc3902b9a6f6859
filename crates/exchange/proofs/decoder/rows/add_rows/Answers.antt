-- `add_rows`: the bytes below i have the eight rows, the others do not yet.
use mathlib.Core.Path.{◌≡◌, refl, sym, ap, ap₂, ◌∙◌}
use Prim.Native.Nat.{ℕ, ◌+◌, ◌*◌, ◌<◌}
use native.Mathlib.Omega.{arith}
use borrow.Author.Count.{below_more}
use lib.Bits.{bit_xor}
use lib.Dec.{lit<}
use lib.ListN.{length, get_or}
use lib.Seq.{get_or-set_same, get_or-set_other}
use Rattle.hashing.specs.Lists.{bit_at, bits}
use Rattle.hashing.proofs.Words.{bits_at, bits_by}
use Rattle.ring.specs.Polynomials.{flip, parity}
use Rattle.ring.proofs.Packed.{bit-flip}
use Rattle.ring.proofs.Parity.{parity_ext}
use Rattle.exchange.proofs.decoder.rows.add_rows.Goals as goal

pub loop-i-preserved : goal.loop-i-preserved
loop-i-preserved c =
    let was = c.loop-i in
    let given = c.args in
    let i = was.i in
    let byte : ℕ = bit_xor (get_or was.z i 0) c.eight.result in
    let room : i < length was.z = omega arith in (
      omega arith,
      below_more _ i
          (λ j h e below. ap (λ (b : ℕ). bit_at b e) (get_or-set_other was.z i j byte 0 (λ same. omega arith)) ∙ was.invariant.1 j h e below)
          (λ e below.
          ap (λ (b : ℕ). bit_at b e) (get_or-set_same was.z i byte 0 room) ∙ bit-flip (get_or was.z i 0) c.eight.result e
          ∙ ap₂ flip (ap (λ (b : ℕ). bit_at b e) (was.invariant.2 i (omega arith))) (c.eight.ensures e (omega arith))),
      λ j past. get_or-set_other was.z i j byte 0 (λ same. omega arith) ∙ was.invariant.2 j (omega arith),
    )

pub returns : goal.returns
returns c =
    let was = c.loop-i in
    let given = c.args in
    let all : was.i ≡ given.n = omega arith in
    let f = given.f.now in
    let z₀ = given.z.now in
    bits_by 8 was.z (λ k. flip (bits 8 z₀ k) (parity 8 (λ m. bits 8 f (8 * get_or given.at m 0 + k)))) given.n (lit< tt)
    (λ i h e below.
    was.invariant.1 i (omega arith) e below
    ∙ ap₂ flip (sym (bits_at 8 z₀ i e refl below))
    (parity_ext 8 {f = λ m. bit_at (get_or f (get_or given.at m 0 + i) 0) e} {g = λ m. bits 8 f (8 * get_or given.at m 0 + (8 * i + e))}
    (λ m few. sym (bits_at 8 f (get_or given.at m 0 + i) e (omega arith) below))))
