-- `count_block`: after each pass of eight rows the counters of the block are their sum; the empty rows past the last add nothing.
use mathlib.Core.Path.{◌≡◌, refl, sym, ap, ◌∙◌}
use mathlib.Core.List.{List}
use Prim.Native.Nat.{ℕ, ◌+◌, ◌*◌, ◌≤◌}
use native.Mathlib.Omega.{arith}
use lib.ListN.{get_or}
use Rattle.hashing.specs.Lists.{bits}
use Rattle.ring.specs.Polynomials.{bit}
use Rattle.exchange.specs.inner.Counting.{total}
use Rattle.exchange.specs.inner.Planes.{in_row}
use Rattle.exchange.proofs.decoder.Totals.{total-add, total_le, bit_le}
use Rattle.exchange.proofs.decoder.planes.Laws.{total_rest}
use Rattle.exchange.proofs.decoder.planes.count_block.Goals as goal

pub loop-pass-init : goal.loop-pass-init
unfolding total
loop-pass-init c =
    (omega arith, (λ i e above below h. c.requires.fact_2 i e above below), λ i h out. refl)

-- a row has a place set once at most
row_le : (f starts : List ℕ) (j m : ℕ) → in_row f starts j m ≤ 1
unfolding in_row
row_le f starts j m = bit_le (bits 8 f (8 * get_or starts m 0 + j))

-- eight rows more
eight_more : (row : ℕ → ℕ) (k : ℕ) {was now : ℕ} → was ≡ total k row → now ≡ was + total 8 (λ m. row (k + m)) → now ≡ total (k + 8) row
eight_more row k is sum = sum ∙ ap (λ (n : ℕ). n + total 8 (λ m. row (k + m))) is ∙ sym (total-add k 8 row)

pub loop-pass-preserved : goal.loop-pass-preserved
loop-pass-preserved c =
    let l = c.loop-pass in
    let added = c.add_rows in
    let f = c.args.f.now in
    let starts = c.args.starts.now in
    let k = 8 * l.pass in
    let next : k + 8 ≡ 8 * (l.pass + 1) = omega arith in (
      omega arith,
      (λ i e above below h.
          let row = in_row f starts (64 * i + e) in
          let was = l.invariant.1 i e above below h in
          let few = total_le k row (row_le f starts (64 * i + e)) in
          let more = total_le 8 (λ m. row (k + m)) (λ m. row_le f starts (64 * i + e) (k + m)) in
          eight_more row k was
          (added.ensures.fact_1 i e above below h (omega (arith, was, few, more, c.loop-pass-test.true, c.requires.fact_1.1, l.invariant.0)))
          ∙ ap (λ (n : ℕ). total n row) next),
      λ i h out. added.ensures.fact_2 i h out ∙ l.invariant.2 i h out,
    )

pub returns : goal.returns
unfolding in_row
returns c =
    let l = c.loop-pass in
    let f = c.args.f.now in
    let starts = c.args.starts.now in
    let d = c.args.d in record {
      fact_1 = (λ i e above below h.
          l.invariant.1 i e above below h
          ∙ total_rest d (8 * l.pass) (in_row f starts (64 * i + e)) (omega arith)
          (λ m past more. ap bit (c.requires.fact_3.1 m (64 * i + e) past (omega arith) (omega arith))));
      fact_2 = l.invariant.2;
    }
