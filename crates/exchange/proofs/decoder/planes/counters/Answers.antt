-- `counters`: b blocks are counted, and the counters of the others are 0.
use mathlib.Core.Path.{◌≡◌, ap, ◌∙◌}
use mathlib.Core.Bool.{false}
use mathlib.Core.List.{List}
use Prim.Native.Nat.{ℕ, ◌+◌, ◌*◌, ◌/◌, ◌%◌, ◌≤◌, ◌<◌}
use native.Mathlib.Nat.{not-suc-le-zero}
use native.Mathlib.Decide.{dec_lt}
use native.Mathlib.Omega.{arith}
use lib.ListN.{get_or}
use Rattle.hashing.specs.Lists.{bits}
use Rattle.ring.specs.inner.Sizes.{word_bits}
use Rattle.ring.specs.Polynomials.{bit}
use Rattle.exchange.specs.inner.ByteRows.{EmptyRow, empty_row, row_at}
use Rattle.exchange.specs.inner.Counting.{total}
use Rattle.exchange.specs.inner.Planes.{Within, plane_words, planes_words, row_starts, counter_at, in_row}
use Rattle.exchange.proofs.decoder.Totals.{total_ext, total_le, bit_le}
use Rattle.exchange.proofs.decoder.planes.Laws.{none_counted}
use Rattle.exchange.proofs.decoder.planes.counters.Goals as goal
use Rattle.exchange.proofs.decoder.planes.counters.Goals.{After-loop-b}

pub loop-b-init : goal.loop-b-init
loop-b-init c =
    let blank = c.filled-p.ensures in (
      omega arith,
      (λ i e h. absurd (not-suc-le-zero h)),
      λ i e above below. none_counted planes_words blank i e,
    )

-- each row that `starts_of` finds lies within the rows, and those past the last position are empty
module _ (r d : ℕ) (positions starts f : List ℕ) (small : r < word_bits) (below : (i : ℕ) → i < d → get_or positions i 0 < r)
    (at : (i : ℕ) → i < d → get_or starts i 0 ≡ row_at (get_or positions i 0)) (past : (i : ℕ) → d ≤ i → i < row_starts → get_or starts i 0 ≡ empty_row)
    (none : EmptyRow f) where
  ready : Within starts
      × ((m j : ℕ) → d ≤ m → m < row_starts → j < 64 * plane_words → bits 8 f (8 * get_or starts m 0 + j) ≡ false)
  unfolding row_at
  ready =
      ((λ m h. go m h (dec_lt m d)), λ m j rest h low. ap (λ (s : ℕ). bits 8 f (8 * s + j)) (past m rest h) ∙ none j (omega arith))
    where
      go : (m : ℕ) → m < row_starts → Dec (m < d) → get_or starts m 0 ≤ empty_row
      go m h (yes more) = omega (arith, at m more, below m more)
      go m h (no rest) = omega (arith, past m (omega arith) h)

pub count_block-requires : goal.count_block-requires
count_block-requires c =
    let l = c.loop-b in
    let rows = c.starts_of-starts in
    let given = c.args in
    let known = ready given.r given.d given.positions.now rows.result given.rows.now.bytes c.requires.fact_1.0 c.requires.fact_2 rows.ensures.fact_1 rows.ensures.fact_2 c.args.rows.now.empty in
    record {
      fact_1 = (omega (arith, l.invariant.0, c.loop-b-test.true, c.requires.fact_1.0), c.requires.fact_1.2);
      fact_2 = (λ i e above below. l.invariant.2 i e (omega arith) (omega arith));
      fact_3 = known;
    }

counted : (c : After-loop-b) →
    let given = c.args in
    (j : ℕ) → j < given.r → counter_at c.loop-b.p j ≡ total given.d (λ i. bit (bits 8 given.rows.now.bytes (8 * row_at (get_or given.positions.now i 0) + j)))
unfolding counter_at in_row
counted c j h =
    let l = c.loop-b in
    let rows = c.starts_of-starts in
    let f = c.args.rows.now.bytes in
    let whole : 64 * (j / 64) + j % 64 ≡ j = omega arith in
    l.invariant.1 (j / 64) (j % 64) (omega arith) (omega arith)
    ∙ total_ext c.args.d (in_row f rows.result (64 * (j / 64) + j % 64)) (λ i. bit (bits 8 f (8 * row_at (get_or c.args.positions.now i 0) + j)))
    (λ i more. ap (λ (k : ℕ). bit (bits 8 f (8 * get_or rows.result i 0 + k))) whole ∙ ap (λ (s : ℕ). bit (bits 8 f (8 * s + j))) (rows.ensures.fact_1 i more))

pub returns : goal.returns
returns c = record {
  fact_1 = counted (goal.at.returns c).After-loop-b;
  fact_2 = λ j h.
      omega (arith, counted (goal.at.returns c).After-loop-b j h, total_le c.args.d _ (λ i. bit_le (bits 8 c.args.rows.now.bytes (8 * row_at (get_or c.args.positions.now i 0) + j))), c.requires.fact_1.2);
}
