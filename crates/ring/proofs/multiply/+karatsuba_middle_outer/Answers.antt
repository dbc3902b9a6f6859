-- `karatsuba`, `outer` and `middle` meet their contracts.
use mathlib.Core.Path.{◌≡◌, sym, ap, ap₂, ◌∙◌}
use mathlib.Core.List.{List}
use Prim.Native.Nat.{ℕ, ◌-◌, ◌*◌, ◌/◌, ◌^◌, ◌≤◌}
use native.Mathlib.Omega.{arith}
use lib.ListN.{length, take, replicate, length-replicate}
use lib.Seq.{length-take-le}
use Rattle.hashing.specs.Lists.{bits}
use Rattle.ring.specs.inner.Wide.{wide}
use Rattle.ring.specs.inner.Sizes.{half_words, factor_words}
use Rattle.ring.proofs.multiply.Parts.{front_is, halves_sum, power-twice, halves_product}
use Rattle.ring.proofs.multiply.+karatsuba_middle_outer.Goals as goal

-- the lengths, where there are halves
record Halved (n depth : ℕ) (a b c : List ℕ) : Type 0 where
  half_is : length a / 2 ≡ n * 2 ^ (depth - 1)
  long_a : length a ≡ 2 * (length a / 2)
  long_b : length b ≡ 2 * (length a / 2)
  long_c : length c ≡ 4 * (length a / 2)
  fits : length a ≤ factor_words

halved : (n depth : ℕ) (a b c : List ℕ) → 1 ≤ depth → n * 2 ^ depth ≤ factor_words → length a ≡ n * 2 ^ depth → length b ≡ n * 2 ^ depth
    → length c ≡ 2 * (n * 2 ^ depth) → Halved n depth a b c
halved n depth a b c deep room is_a is_b is_c =
    let whole : length a ≡ 2 * (n * 2 ^ (depth - 1)) = is_a ∙ power-twice n depth deep in
    let half : length a / 2 ≡ n * 2 ^ (depth - 1) = omega (arith, whole) in
    let long : length a ≡ 2 * (length a / 2) = whole ∙ ap (◌*◌ 2) (sym half) in
    record {
      half_is = half;
      long_a = long;
      long_b = is_b ∙ sym is_a ∙ long;
      long_c = omega (arith, is_a, is_c, long);
      fits = omega (arith, room, is_a);
    }

pub karatsuba-outer-requires : goal.karatsuba-outer-requires
karatsuba-outer-requires t c =
    let pre = c.requires in
    let e = halved c.args.n c.args.depth c.args.a.now c.args.b.now c.args.c.now (omega arith) pre.1 pre.2 pre.3 pre.4 in
    (omega (arith, c.decreases), (pre.0, omega (arith, e.long_a, e.fits), e.half_is, e.long_a, e.long_b, e.long_c, pre.5))

pub karatsuba-middle-requires : goal.karatsuba-middle-requires
karatsuba-middle-requires t c =
    let pre = c.requires in
    let e = halved c.args.n c.args.depth c.args.a.now c.args.b.now c.args.c.now (omega arith) pre.1 pre.2 pre.3 pre.4 in (
      omega (arith, c.decreases),
      (pre.0, omega (arith, e.long_a, e.fits), e.half_is, e.long_a, e.long_b, omega (arith, e.long_a, e.fits), c.outer.ensures.0),
    )

pub karatsuba-join-requires : goal.karatsuba-join-requires
karatsuba-join-requires t c =
    let pre = c.requires in
    let e = halved c.args.n c.args.depth c.args.a.now c.args.b.now c.args.c.now (omega arith) pre.1 pre.2 pre.3 pre.4 in
    (c.outer.auto.c ∙ e.long_c, omega (arith, e.long_a, e.fits, c.middle.auto.m))

pub karatsuba-returns : goal.karatsuba-returns
karatsuba-returns t c =
    let pre = c.requires in
    let e = halved c.args.n c.args.depth c.args.a.now c.args.b.now c.args.c.now (omega arith) pre.1 pre.2 pre.3 pre.4 in
    let h = length c.args.a.now / 2 in
    let m = c.middle in
    let o = c.outer in (
      m.ensures.0,
      halves_product h c.args.a.now c.args.b.now o.new.c c.join.new.c (bits 64 (take (2 * h) m.new.m))
          e.long_a e.long_b (o.auto.c ∙ e.long_c) o.ensures.1 o.ensures.2 m.ensures.1 c.join.ensures,
    )

-- what was written over zeros has room for a half
room : (h : ℕ) (z x : List ℕ) → h ≤ half_words → z ≡ replicate half_words 0 → length x ≡ length z → h ≤ length x
room h z x half none same = omega (arith, half, same, ap length none, length-replicate {A = ℕ} half_words 0)

pub middle-returns : goal.middle-returns
middle-returns t c =
    let a = c.args in
    let pre = c.requires in
    let half : a.h ≤ half_words = omega (arith, pre.1) in
    let x = c.add_halves.new.s in
    let y = c.add_halves-2.new.s in
    let k = c.karatsuba in
    let at_x = room a.h c.filled-x.result x half c.filled-x.ensures c.add_halves.auto.s in
    let at_y = room a.h c.filled-y.result y half c.filled-y.ensures c.add_halves-2.auto.s in (
      k.ensures.0,
      ap (bits 64) (front_is (2 * a.h) a.m.now k.new.c (k.auto.c ∙ length-take-le (2 * a.h) a.m.now pre.5))
          ∙ k.ensures.1
          ∙ ap (λ (n : ℕ). wide (64 * n) (bits 64 (take a.h x)) (bits 64 (take a.h y))) (length-take-le a.h x at_x)
          ∙ ap₂ (wide (64 * a.h))
          (halves_sum a.h half_words a.a.now c.filled-x.result x pre.3 at_x c.filled-x.ensures c.add_halves.ensures)
          (halves_sum a.h half_words a.b.now c.filled-y.result y pre.4 at_y c.filled-y.ensures c.add_halves-2.ensures),
    )
