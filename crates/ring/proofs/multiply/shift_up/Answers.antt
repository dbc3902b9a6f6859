-- `multiply::shift_up` meets its contract: i words are shifted, the others stand as they were, and `low` is the word before. Assumes nothing.
use mathlib.Core.Path.{◌≡◌, ap₂, ◌∙◌}
use mathlib.Core.List.{[], ◌∷◌}
use Prim.Native.Nat.{ℕ, ◌+◌, ◌*◌, ◌<◌}
use native.Mathlib.Nat.{le_refl}
use native.Mathlib.Numerals.{add-one}
use native.Mathlib.Omega.{arith}
use lib.Dec.{lit<, lit≤}
use lib.ListN.{length-set}
use lib.Seq.{get_or-set_other}
use Rattle.hashing.specs.Lists.{bit_at, bits}
use Rattle.hashing.proofs.Words.{bits_by}
use Rattle.ring.specs.inner.Wide.{shifted}
use Rattle.ring.proofs.words.Laws.{carried, filled}
use Rattle.ring.proofs.multiply.shift_up.Goals as goal

pub loop-i-preserved : goal.loop-i-preserved
loop-i-preserved c =
    let l = c.loop-i in
    let x₀ = c.args.x.now in (
      omega arith,
      length-set l.x l.i c.funnel.result ∙ l.invariant.1,
      rw add-one (l.invariant.3 l.i (le_refl l.i)),
      (λ j h. get_or-set_other l.x l.i j c.funnel.result 0 (λ e. omega arith) ∙ l.invariant.3 j (omega arith)),
      filled (λ j y. (e : ℕ) → e < 64 → bit_at y e ≡ shifted 5 (bits 64 x₀) (64 * j + e)) l.x l.i c.funnel.result (omega arith)
          l.invariant.4
          (λ e h.
          c.funnel.ensures e h
          ∙ ap₂ (λ (low high : ℕ). bits 64 (low ∷ high ∷ []) (59 + e)) l.invariant.2 (l.invariant.3 l.i (le_refl l.i))
          ∙ carried x₀ 5 l.i e (lit≤ tt) h),
    )

pub returns : goal.returns
returns c = let l = c.loop-i in
    let all : l.i ≡ c.args.len = omega arith in
    bits_by 64 l.x (shifted 5 (bits 64 c.args.x.now)) c.args.len (lit< tt)
    (λ j h. l.invariant.4 j (omega arith))
