-- `windows`: before a pass the first 8 windows for each one before of what stands in d are added; those past the last are empty.
use mathlib.Core.Path.{◌≡◌, sym, ap, ap₂, ◌∙◌}
use mathlib.Core.Bool.{false}
use mathlib.Core.List.{List}
use mathlib.Core.Logic.{⊎_elim}
use Prim.Native.Nat.{ℕ, ◌+◌, ◌*◌, ◌≤◌, ◌<◌}
use native.Mathlib.Decide.{dec_lt}
use native.Mathlib.Omega.{arith}
use lib.ListN.{get_or}
use Rattle.hashing.specs.Lists.{bits}
use Rattle.hashing.proofs.Lists.{from_table}
use Rattle.ring.specs.Polynomials.{Poly, flip, parity}
use Rattle.ring.specs.inner.Sizes.{words, word_bits, most_starts, empty_window}
use Rattle.ring.specs.inner.Windows.{Start}
use Rattle.ring.proofs.Packed.{bits-zeros}
use Rattle.ring.proofs.Parity.{parity_ext, parity_past, parity-split}
use Rattle.ring.proofs.sparse.Laws.{window_of}
use Rattle.ring.proofs.sparse.windows.Goals as goal
use Rattle.ring.proofs.sparse.windows.Invariants.{added}

pub loop-pass-init : goal.loop-pass-init
unfolding parity
loop-pass-init c =
    let none : (k : ℕ) → bits 64 c.filled-y.result k ≡ false = λ k. ap (λ (p : Poly). p k) (ap (bits 64) c.filled-y.ensures ∙ bits-zeros words) in
    (omega arith, (λ k past. none k), λ k below. none k)

-- each window lies within d
within : (r count : ℕ) (from : List ℕ) → r < word_bits → ((i : ℕ) → i < count → Start r (get_or from i 0))
    → ((i : ℕ) → count ≤ i → i < most_starts → get_or from i 0 ≡ empty_window) → (i : ℕ) → i < most_starts → get_or from i 0 ≤ empty_window
within r count from small starts rest i room = go (dec_lt i count)
  where
    go : Dec (i < count) → get_or from i 0 ≤ empty_window
    go (yes more) = ⊎_elim (λ low. omega arith) (λ empty. omega arith) (starts i more)
    go (no past) = let empty = rest i (omega arith) room in omega arith

pub add_windows-requires : goal.add_windows-requires
add_windows-requires c =
    let was = c.loop-pass in
    let from = c.args.from.now in (
      omega arith,
      (λ m h.
          let at = from_table 8 (λ m. get_or from ((8 * was.pass) + m) 0) 0 c.next_eight.ensures m h in
          let inside = within c.args.r c.args.count from (omega arith) c.requires.fact_3.0 c.requires.fact_3.1 ((8 * was.pass) + m) (omega arith) in
          omega arith),
      omega arith,
    )

pub loop-pass-preserved : goal.loop-pass-preserved
loop-pass-preserved c =
    let was = c.loop-pass in
    let held = c.twice-d in
    let from = c.args.from.now in
    let picked = c.next_eight in
    let summed = c.add_windows.ensures in
    let next : 8 * was.pass + 8 ≡ 8 * (was.pass + 1) = omega arith in (
      c.add_windows.auto.y ∙ was.invariant.0,
      (λ k past. summed.fact_2 k past ∙ was.invariant.1 k past),
      λ k below.
          summed.fact_1 k below
          ∙ ap₂ flip (was.invariant.2 k below)
          (parity_ext 8 {f = λ m. bits 64 held.result (get_or picked.result m 0 + k)} {g = λ m. added held.result from k ((8 * was.pass) + m)}
          (λ m h. ap (λ (at : ℕ). bits 64 held.result (at + k)) (from_table 8 (λ m. get_or from ((8 * was.pass) + m) 0) 0 picked.ensures m h)))
          ∙ sym (parity-split (8 * was.pass) 8 (added held.result from k))
          ∙ ap (λ (n : ℕ). parity n (added held.result from k)) next,
    )

pub returns : goal.returns
returns c =
    let was = c.loop-pass in
    let held = c.twice-d in
    let r = c.args.r in
    let count = c.args.count in
    let from = c.args.from.now in
    let x = bits 64 c.args.x in record {
      fact_1 = c.cut.ensures.fact_1;
      fact_2 = λ k below.
          c.cut.ensures.fact_2 k below ∙ was.invariant.2 k (omega arith)
          ∙ parity_past count (8 * was.pass) (added held.result from k) (omega arith)
          (λ i past more.
          ap (λ (at : ℕ). bits 64 held.result (at + k)) (c.requires.fact_3.1 i past (omega arith)) ∙ held.ensures.fact_2 (empty_window + k) (omega arith))
          ∙ parity_ext count
          (λ i more. window_of r x (bits 64 held.result) (get_or from i 0) k (omega arith) (c.requires.fact_3.0 i more) below held.ensures.fact_1 held.ensures.fact_2);
    }
