-- `multiply::fill_two` meets its contract: i words of both rows are right, and all else is as it was. Assumes nothing.
use mathlib.Core.Path.{◌≡◌, sym, ap, ap₂, ◌∙◌}
use mathlib.Core.List.{[], ◌∷◌}
use mathlib.Core.Logic.{inl}
use Prim.Native.Nat.{ℕ, ◌+◌, ◌-◌, ◌*◌}
use native.Mathlib.Omega.{arith}
use lib.Bits.{bit_xor}
use lib.ListN.{get_or, set, length-set}
use lib.Seq.{get_or-set_other}
use Rattle.hashing.specs.Lists.{bit_at, bits}
use Rattle.hashing.proofs.Words.{bits_at}
use Rattle.ring.specs.Polynomials.{flip}
use Rattle.ring.specs.inner.Sizes.{row_words, first_row}
use Rattle.ring.proofs.Packed.{bit-flip}
use Rattle.ring.proofs.words.Laws.{two_words, written, bits_from}
use Rattle.ring.proofs.multiply.Laws.{away_more}
use Rattle.ring.proofs.multiply.fill_two.Goals as goal
use Rattle.ring.proofs.multiply.fill_two.Invariants.{Odd, Even}

pub loop-i-preserved : goal.loop-i-preserved
loop-i-preserved c =
    let l = c.loop-i in
    let a = c.args in
    let t₀ = a.t.now in
    let from = row_words * a.v + 6 in
    let to = row_words * (2 * a.v) + 6 in
    let i = l.i in
    let f = c.funnel-x in
    let x = f.result in
    let t = set l.t (to + i) x in
    let y = bit_xor x (get_or t (first_row + i) 0) in
    let twice : Even t₀ from i x = λ e h.
    let next : from + i ≡ from + i - 1 + 1 = omega arith in
    let less : 64 * (from + i - 1) + (63 + e) ≡ 64 * from + (64 * i + e) - 1 = omega arith in
    f.ensures e h
    ∙ ap₂ (λ (low high : ℕ). bits 64 (low ∷ high ∷ []) (63 + e)) (l.invariant.2 (from + i - 1) (inl (omega arith)) (inl (omega arith)))
    (l.invariant.2 (from + i) (inl (omega arith)) (inl (omega arith)) ∙ ap (λ (i : ℕ). get_or t₀ i 0) next)
    ∙ two_words t₀ (from + i - 1) (63 + e) (omega arith) ∙ ap (bits 64 t₀) less in (
      omega arith,
      length-set t (to + row_words + i) y ∙ length-set l.t (to + i) x ∙ l.invariant.1,
      (λ j even odd.
          let e = away_more to i j even in
          let o = away_more (to + row_words) i j odd in
          get_or-set_other t (to + row_words + i) j y 0 o.0 ∙ get_or-set_other l.t (to + i) j x 0 e.0 ∙ l.invariant.2 j e.1 o.1),
      (λ j h. rw (get_or-set_other t (to + row_words + i) (to + j) y 0 (λ e. omega arith))
          (written (Even t₀ from) l.t to i x (omega arith) l.invariant.3 twice j h)),
      written (Odd t₀ from) t (to + row_words) i y (omega (arith, length-set l.t (to + i) x))
          (λ j h. rw (get_or-set_other l.t (to + i) (to + row_words + j) x 0 (λ e. omega arith)) (l.invariant.4 j h))
          (λ e h.
          bit-flip x (get_or t (first_row + i) 0) e
          ∙ ap₂ flip (twice e h)
          (ap (λ (w : ℕ). bit_at w e)
          (get_or-set_other l.t (to + i) (first_row + i) x 0 (λ e. omega arith) ∙ l.invariant.2 (first_row + i) (inl (omega arith)) (inl (omega arith)))
          ∙ sym (bits_at 64 t₀ (first_row + i) e (omega arith) h))),
    )

pub returns : goal.returns
returns c =
    let l = c.loop-i in
    let a = c.args in
    let t₀ = a.t.now in
    let from = row_words * a.v + 6 in
    let to = row_words * (2 * a.v) + 6 in
    let next : row_words * (2 * a.v + 1) + 6 ≡ to + row_words = omega arith in
    let all : l.i ≡ a.n + 1 = omega arith in
    record {
      by_index = rw (next, ← all) l.invariant.2;
      by_index_2 = bits_from l.t to (a.n + 1) (λ k. bits 64 t₀ (64 * from + k - 1)) (rw (← all) l.invariant.3);
      by_index_3 = rw next (bits_from l.t (to + row_words) (a.n + 1) (λ k. flip (bits 64 t₀ (64 * from + k - 1)) (bits 64 t₀ (64 * first_row + k))) (rw (← all) l.invariant.4));
    }
