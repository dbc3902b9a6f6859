-- `lay` goes word by word: before turn i the bits of i words are laid out.
use mathlib.Core.Path.{◌≡◌, refl, sym, ap, ◌∙◌}
use mathlib.Core.List.{List}
use mathlib.Core.Logic.{inl, inr}
use Prim.Native.Nat.{ℕ, ◌+◌, ◌-◌, ◌*◌, ◌<◌}
use native.Mathlib.Decide.{dec_lt}
use native.Mathlib.Omega.{arith}
use lib.ListN.{get_or}
use Rattle.hashing.specs.Lists.{bit_at, bits}
use Rattle.hashing.proofs.Words.{bits_at}
use Rattle.ring.specs.Polynomials.{bit}
use Rattle.ring.proofs.unpack.lay.Goals as goal

pub loop-i-preserved : goal.loop-i-preserved
loop-i-preserved c =
    let was = c.loop-i in
    let x = c.args.x.now in
    let laid = c.lay_word in
    let i = was.i in (
      omega arith,
      laid.auto.out ∙ was.invariant.1,
      (λ k below. go was.out laid.new.out x i was.invariant.2 laid.ensures.by_index (λ k low. laid.ensures.by_index_2 k (inl low)) k below (dec_lt k (64 * i))),
      λ k past. laid.ensures.by_index_2 k (inr (omega arith)) ∙ was.invariant.3 k (omega arith),
    )
  where
    -- 64 bytes more
    go : (out next x : List ℕ) (i : ℕ) → ((k : ℕ) → k < 64 * i → get_or out k 0 ≡ bit (bits 64 x k))
        → ((k : ℕ) → k < 64 → get_or next (64 * i + k) 0 ≡ bit (bit_at (get_or x i 0) k)) → ((k : ℕ) → k < 64 * i → get_or next k 0 ≡ get_or out k 0)
        → (k : ℕ) → k < 64 * (i + 1) → Dec (k < 64 * i) → get_or next k 0 ≡ bit (bits 64 x k)
    go out next x i before word kept k below (yes low) = kept k low ∙ before k low
    go out next x i before word kept k below (no high) =
        let place : 64 * i + (k - 64 * i) ≡ k = omega arith in
        ap (λ (j : ℕ). get_or next j 0) (sym place) ∙ word (k - 64 * i) (omega arith)
        ∙ ap bit (sym (bits_at 64 x i (k - 64 * i) refl (omega arith)) ∙ ap (bits 64 x) place)
