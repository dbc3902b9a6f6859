-- `copies`: before turn i the copies have their first i bytes, and neither the first copy nor the zeros are touched.
use mathlib.Core.Path.{◌≡◌, sym, ap, ◌∙◌}
use mathlib.Core.List.{List, ◌∷◌, []}
use Prim.Native.Nat.{ℕ, ◌+◌, ◌*◌, ◌/◌, ◌%◌, ◌<◌}
use native.Mathlib.Decide.{dec_lt, ℕ_discrete}
use native.Mathlib.Omega.{arith}
use lib.ListN.{get_or}
use Rattle.hashing.specs.Lists.{bit_at, bits}
use Rattle.hashing.proofs.Words.{bits_at}
use Rattle.exchange.specs.inner.ByteRows.{row_bytes}
use Rattle.exchange.proofs.decoder.rows.Laws.{two_bytes}
use Rattle.exchange.proofs.decoder.rows.copies.Goals as goal
use Rattle.exchange.proofs.decoder.rows.copies.Invariants.{Copied, Laid}

-- byte i of all seven
more : (f₀ f g : List ℕ) (i : ℕ) → i + 1 < row_bytes → Copied f₀ f i → Laid f g i (get_or f i 0) (get_or f (i + 1) 0) 8 → Copied f₀ g (i + 1)
more f₀ f g i low before laid = record {
  copy = λ s j e some few below within. go s j e some few below within (ℕ_discrete j i);
  first = λ k below. laid.other k (λ s some few same. omega arith) ∙ before.first k below;
  zeros = λ k past. laid.other k (λ s some few same. omega arith) ∙ before.zeros k past;
}
  where
    here : (e : ℕ) → e < 16 → bits 8 (get_or f i 0 ∷ get_or f (i + 1) 0 ∷ []) e ≡ bits 8 f₀ (8 * i + e)
    here e h = rw (before.first i (omega arith), before.first (i + 1) low) (two_bytes f₀ i e h)

    go : (s j e : ℕ) → 0 < s → s < 8 → j < i + 1 → e < 8 → Dec (j ≡ i) → bit_at (get_or g (s * row_bytes + j) 0) e ≡ bits 8 f₀ (8 * j + (s + e))
    go s j e some few below within (yes same) =
        rw same (laid.here s e some few within ∙ here (s + e) (omega arith))
    go s j e some few below within (no different) =
        ap (λ (b : ℕ). bit_at b e) (laid.other (s * row_bytes + j) (λ t some' few' same. omega arith))
        ∙ before.copy s j e some few (omega arith) within

pub loop-i-preserved : goal.loop-i-preserved
loop-i-preserved c =
    let last : c.loop-s.s ≡ 8 = omega (arith, c.loop-s.invariant.few) in
    (omega arith, more c.args.f.now c.loop-i.f c.loop-s.f c.loop-i.i (omega arith) c.loop-i.invariant.1 (rw last at c.loop-s.invariant))

-- the bits of a copy, from its bytes
copy_bits : (f₀ f : List ℕ) (n : ℕ) → n < row_bytes → Copied f₀ f n
    → (s k : ℕ) → s < 8 → k < 8 * n → bits 8 f (8 * (s * row_bytes) + k) ≡ bits 8 f₀ (s + k)
copy_bits f₀ f n low copied s k few below = go (dec_lt 0 s)
  where
    at : 8 * (s * row_bytes) + k ≡ 8 * (s * row_bytes + k / 8) + k % 8
    at = omega arith

    go : Dec (0 < s) → bits 8 f (8 * (s * row_bytes) + k) ≡ bits 8 f₀ (s + k)
    go (yes some) =
        let place : 8 * (k / 8) + (s + k % 8) ≡ s + k = omega arith in
        bits_at 8 f (s * row_bytes + k / 8) (k % 8) at (omega arith)
        ∙ copied.copy s (k / 8) (k % 8) some few (omega arith) (omega arith) ∙ ap (bits 8 f₀) place
    go (no none) =
        let zero : s ≡ 0 = omega arith in
        bits_at 8 f (k / 8) (k % 8) (omega arith) (omega arith) ∙ ap (λ (b : ℕ). bit_at b (k % 8)) (copied.first (k / 8) (omega arith))
        ∙ sym (bits_at 8 f₀ (k / 8) (k % 8) (omega arith) (omega arith))

pub returns : goal.returns
returns c =
    let was = c.loop-i in
    let given = c.args in
    let all : was.i ≡ given.n = omega arith in
    record {
      fact_1 = copy_bits given.f.now was.f given.n (omega arith) (rw (← all) was.invariant.1);
      fact_2 = was.invariant.1.zeros;
    }
