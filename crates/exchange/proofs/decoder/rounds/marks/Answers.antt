-- `marks`: the rows that the positions pick are what a counter counts.
use mathlib.Core.Path.{◌≡◌, ◌∙◌}
use mathlib.Core.Bool.{◌&&◌}
use mathlib.Core.List.{List}
use Prim.Native.Nat.{ℕ, ◌+◌, ◌*◌}
use lib.Dec.{leb, ltb}
use lib.ListN.{get_or, take}
use Rattle.hashing.specs.Lists.{bits}
use Rattle.ring.specs.Levels.{level_of}
use Rattle.ring.specs.Polynomials.{Poly, bit, support}
use Rattle.exchange.specs.decoder.Decoder.{Pair, counter, reaching}
use Rattle.exchange.specs.inner.ByteRows.{row_at, ByteRows}
use Rattle.exchange.specs.inner.Counting.{total}
use Rattle.exchange.specs.inner.Working.{key_of, Good, Rising}
use Rattle.exchange.specs.declared.halves.Halves.{Halves}
use Rattle.exchange.proofs.decoder.Laws.{marked, reached}
use Rattle.exchange.proofs.decoder.Listing.{ready, counted}
use Rattle.exchange.proofs.decoder.rounds.marks.Goals as goal

-- what reaches a bound in one half
half : (level r d : ℕ) (h f : List ℕ) (x : Poly) (bound : ℕ) {m : Poly} → r ≡ (level_of level).r → d ≡ (level_of level).d → Rising (level_of level) h → ByteRows r x f
    → m ≡ (λ j. ltb j r && leb bound (total d (λ i. bit (bits 8 f (8 * row_at (get_or h i 0) + j)))))
    → m ≡ (λ j. ltb j (level_of level).r && leb bound (counter (level_of level).r (support (take (level_of level).d h)) x j))
half level r d h f x bound at-r at-d rising rows is =
    let asked = ready level r d h at-r at-d rising in
    rw (← at-r, ← at-d)
    (is ∙ marked r (λ j. total d (λ i. bit (bits 8 f (8 * row_at (get_or h i 0) + j)))) (counter r (support (take d h)) x) bound
    (counted r d h f x asked.0.2 (rw (at-r, at-d) rising.1) rows))

-- and in both
both : (level r d : ℕ) (key : Halves (List ℕ)) (f : List ℕ) (x : Poly) (bound : ℕ) {m : Pair} → r ≡ (level_of level).r → d ≡ (level_of level).d → Good (level_of level) key → ByteRows r x f
    → m.half0 ≡ (λ j. ltb j r && leb bound (total d (λ i. bit (bits 8 f (8 * row_at (get_or key.half0 i 0) + j)))))
    → m.half1 ≡ (λ j. ltb j r && leb bound (total d (λ i. bit (bits 8 f (8 * row_at (get_or key.half1 i 0) + j)))))
    → m ≡ reaching (level_of level).r (key_of (level_of level) key) x bound
both level r d key f x bound {m} at-r at-d good rows first second =
    reached (level_of level).r (key_of (level_of level) key) x bound {m = m}
    (half level r d key.half0 f x bound at-r at-d good.0 rows first)
    (half level r d key.half1 f x bound at-r at-d good.1 rows second)

pub set-requires : goal.set-requires
set-requires c =
    let asked = ready c.args.level _ _ c.args.key.half0 c.block-r.ensures c.key_weight-d.ensures c.requires.fact_1.0 in
    record {
      fact_1 = (asked.0.0, asked.0.1);
      fact_2 = rw c.block-r.ensures c.requires.fact_2;
    }

pub half_marks-requires : goal.half_marks-requires
half_marks-requires c =
    let asked = ready c.args.level _ _ c.args.key.half0 c.block-r.ensures c.key_weight-d.ensures c.requires.fact_1.0 in
    record {
      fact_1 = (asked.0.1, asked.0.2, asked.0.3);
      fact_2 = asked.1;
      fact_3 = c.requires.fact_3;
    }

pub half_marks-requires-2 : goal.half_marks-requires-2
half_marks-requires-2 c =
    let asked = ready c.args.level _ _ c.args.key.half1 c.block-r.ensures c.key_weight-d.ensures c.requires.fact_1.1 in
    record {
      fact_1 = (asked.0.1, asked.0.2, asked.0.3);
      fact_2 = asked.1;
      fact_3 = c.requires.fact_3;
    }

pub returns : goal.returns
returns c =
    let level = c.args.level in
    let key = c.args.key in
    let x = bits 64 c.args.x in
    let rows = c.set.ensures in
    let f = c.set.new.self.bytes in
    let at-r = c.block-r.ensures in
    let at-d = c.key_weight-d.ensures in
    let m0 = c.half_marks in
    let m1 = c.half_marks-2 in (
      both level _ _ key f x c.args.bound at-r at-d c.requires.fact_1 rows m0.ensures.0 m1.ensures.0,
      both level _ _ key f x c.args.other at-r at-d c.requires.fact_1 rows m0.ensures.1 m1.ensures.1,
    )
