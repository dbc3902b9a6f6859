-- `multiply::add` meets its contract: i words are done. Assumes nothing.
use mathlib.Core.Path.{◌≡◌, refl, sym, ap, ap₂, ◌∙◌}
use mathlib.Core.Logic.{inr}
use Prim.Native.Nat.{ℕ, ◌+◌, ◌*◌, ◌<◌}
use native.Mathlib.Nat.{le_refl}
use native.Mathlib.Omega.{arith}
use lib.Bits.{bit_xor}
use lib.ListN.{length, get_or, length-set}
use Rattle.hashing.specs.Lists.{bit_at, bits}
use Rattle.hashing.proofs.Words.{bits_at}
use Rattle.ring.specs.Polynomials.{flip}
use Rattle.ring.proofs.Packed.{bit-flip}
use Rattle.ring.proofs.words.Laws.{written, outside, bits_from}
use Rattle.ring.proofs.multiply.Laws.{added}
use Rattle.ring.proofs.multiply.add.Goals as goal

pub loop-i-preserved : goal.loop-i-preserved
loop-i-preserved c =
    let l = c.loop-i in
    let a = c.args in
    let x = get_or l.c (a.at + l.i) 0 in
    let y = get_or a.m.now l.i 0 in
    let P : ℕ → ℕ → Type 0 = λ q v. (e : ℕ) → e < 64
    → bit_at v e ≡ flip (bits 64 a.c.now (64 * a.at + (64 * q + e))) (bits 64 a.m.now (64 * q + e)) in (
      omega arith,
      length-set l.c (a.at + l.i) (bit_xor x y) ∙ l.invariant.1,
      outside P l.c a.c.now a.at l.i (bit_xor x y) l.invariant.2,
      written P l.c a.at l.i (bit_xor x y) (omega arith) l.invariant.3
          (λ e h.
          bit-flip x y e
          ∙ ap₂ flip
          (ap (λ (v : ℕ). bit_at v e) (l.invariant.2 (a.at + l.i) (inr (le_refl (a.at + l.i))))
          ∙ sym (bits_at 64 a.c.now (a.at + l.i) e (omega arith) h))
          (sym (bits_at 64 a.m.now l.i e refl h))),
    )

pub returns : goal.returns
returns c =
    let l = c.loop-i in
    let a = c.args in
    let all : l.i ≡ length a.m.now = omega arith in
    added a.at a.c.now a.m.now l.c (rw (← all) l.invariant.2)
    (bits_from l.c a.at (length a.m.now) (λ k. flip (bits 64 a.c.now (64 * a.at + k)) (bits 64 a.m.now k)) (rw (← all) l.invariant.3))
