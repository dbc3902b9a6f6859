-- `multiply::wide_product` meets its contract. Assumes nothing.
use mathlib.Core.Path.{◌≡◌, ap, ap₂, ◌∙◌}
use mathlib.Core.List.{List}
use Prim.Native.Nat.{ℕ, ◌+◌, ◌-◌, ◌*◌, ◌≤◌}
use native.Mathlib.Omega.{arith}
use lib.ListN.{length, take}
use lib.Seq.{length-take-le}
use Rattle.hashing.specs.Lists.{bits}
use Rattle.ring.specs.Polynomials.{Poly, InRing}
use Rattle.ring.specs.inner.Wide.{wide}
use Rattle.ring.specs.inner.Sizes.{factor_words, wide_words}
use Rattle.ring.proofs.Shifts.{wide_more}
use Rattle.ring.proofs.multiply.Laws.{clear_none}
use Rattle.ring.proofs.multiply.Parts.{bits_front, front_back}
use Rattle.ring.proofs.multiply.wide_product.Goals as goal
use Rattle.ring.proofs.multiply.wide_product.Goals.{After-split_of-split, After-filled-c}

-- the words that are multiplied
module _ (c : After-split_of-split) where
  abbrev long : ℕ
  long = c.split_of-split.result.words

  room : long ≤ factor_words
  room = c.split_of-split.ensures.3

  front : (x : List ℕ) → length x ≡ factor_words → length (take long x) ≡ long
  front x all = length-take-le long x (omega (arith, room))

  -- a padded factor has the coefficients of the factor there
  factor : (a p : List ℕ) → length p ≡ factor_words → InRing (64 * c.args.n) (bits 64 a) → bits 64 p ≡ bits 64 a
      → bits 64 (take long p) ≡ bits 64 a
  factor a p all inside same =
      let covers : c.args.n ≤ long = c.split_of-split.ensures.2 in
      bits_front long p (omega (arith, room)) (rw same (λ k above. inside k (omega arith))) ∙ same

both : (c : After-split_of-split) (d : After-filled-c) → length (take (2 * long c) d.filled-c.result) ≡ 2 * long c
both c d = length-take-le (2 * long c) d.filled-c.result (omega (arith, room c))

pub returns : goal.returns
returns c = λ k below.
    let product = c.karatsuba in
    let pb = c.padded-pb in
    let pa = c.padded-pa in
    let a = c.args.a in
    let b = c.args.b in
    let n = 64 * c.args.n in
    let m = long (goal.at.returns c).After-split_of-split in
    let more : 64 * m ≡ n + (64 * m - n) = omega (arith, c.split_of-split.ensures.2) in
    ap (λ (p : Poly). p k)
    (front_back (2 * m) wide_words c.filled-c.result product.new.c c.filled-c.ensures (product.auto.c ∙ both (goal.at.returns c).After-split_of-split (goal.at.returns c).After-filled-c)
    ∙ product.ensures.1
    ∙ ap (λ (m : ℕ). wide (64 * m) (bits 64 (take (long (goal.at.returns c).After-split_of-split) pa.result)) (bits 64 (take (long (goal.at.returns c).After-split_of-split) pb.result))) (front (goal.at.returns c).After-split_of-split pa.result (omega arith))
    ∙ ap₂ (wide (64 * m)) (factor (goal.at.returns c).After-split_of-split a pa.result (omega arith) c.requires.1 pa.ensures) (factor (goal.at.returns c).After-split_of-split b pb.result (omega arith) c.requires.2 pb.ensures))
    ∙ ap (λ (m : ℕ). wide m (bits 64 a) (bits 64 b) k) more ∙ wide_more n (64 * m - n) (bits 64 a) (bits 64 b) k c.requires.1

pub karatsuba-requires : goal.karatsuba-requires
karatsuba-requires c = let split = c.split_of-split.ensures in
    let size = split.1 in (
      split.0,
      rw size at split.3,
      front (goal.at.karatsuba-requires c).After-split_of-split c.padded-pa.result (omega arith) ∙ size,
      front (goal.at.karatsuba-requires c).After-split_of-split c.padded-pb.result (omega arith) ∙ size,
      both (goal.at.karatsuba-requires c).After-split_of-split (goal.at.karatsuba-requires c).After-filled-c ∙ ap (◌*◌ 2) size,
      clear_none c.split_of-split.result.leaf c.filled-t.result c.filled-t.ensures,
    )
