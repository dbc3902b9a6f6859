-- `multiply::add_rows` meets its contract: i words are done. Assumes nothing.
use mathlib.Core.Path.{◌≡◌, sym, ap, ap₂, ◌∙◌}
use mathlib.Core.Logic.{inr}
use Prim.Native.Nat.{ℕ, ◌+◌, ◌*◌, ◌<◌}
use native.Mathlib.Nat.{le_refl}
use native.Mathlib.Omega.{arith}
use lib.Bits.{bit_xor}
use lib.ListN.{get_or, length-set}
use Rattle.ring.proofs.Packed.{bit-flip}
use Rattle.hashing.specs.Lists.{bit_at, bits}
use Rattle.hashing.proofs.Words.{bits_at}
use Rattle.ring.specs.Polynomials.{flip, parity}
use Rattle.ring.proofs.Parity.{parity_ext}
use Rattle.ring.proofs.words.Laws.{written, outside, bits_from}
use Rattle.ring.proofs.multiply.add_rows.Goals as goal

pub loop-i-preserved : goal.loop-i-preserved
loop-i-preserved c =
    let l = c.loop-i in
    let a = c.args in
    let v = bit_xor (get_or l.x (a.j + l.i) 0) c.seven.result in
    let P : ℕ → ℕ → Type 0 = λ q y. (e : ℕ) → e < 64 → bit_at y e
    ≡ flip (bits 64 a.x.now (64 * a.j + (64 * q + e))) (parity 7 (λ m. bits 64 a.t.now (64 * get_or a.o m 0 + (64 * q + e)))) in (
      omega arith,
      length-set l.x (a.j + l.i) v ∙ l.invariant.1,
      outside P l.x a.x.now a.j l.i v l.invariant.2,
      written P l.x a.j l.i v (omega arith) l.invariant.3
          (λ e h.
          bit-flip (get_or l.x (a.j + l.i) 0) c.seven.result e
          ∙ ap₂ flip
          (ap (λ (y : ℕ). bit_at y e) (l.invariant.2 (a.j + l.i) (inr (le_refl (a.j + l.i))))
          ∙ sym (bits_at 64 a.x.now (a.j + l.i) e (omega arith) h))
          (c.seven.ensures e h
          ∙ parity_ext 7 {f = λ m. bit_at (get_or a.t.now (get_or a.o m 0 + l.i) 0) e} {g = λ m. bits 64 a.t.now (64 * get_or a.o m 0 + (64 * l.i + e))}
          (λ m below. sym (bits_at 64 a.t.now (get_or a.o m 0 + l.i) e (omega arith) h)))),
    )

pub returns : goal.returns
returns c =
    let l = c.loop-i in
    let a = c.args in
    let all : l.i ≡ a.len = omega arith in record {
      outside = rw (← all) l.invariant.2;
      by_index = bits_from l.x a.j a.len (λ k. flip (bits 64 a.x.now (64 * a.j + k)) (parity 7 (λ m. bits 64 a.t.now (64 * get_or a.o m 0 + k))))
          (rw (← all) l.invariant.3);
    }
