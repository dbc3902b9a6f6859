-- `split` cuts the first half off, and takes it out of the sum of both.
use mathlib.Core.Path.{◌≡◌, ap, ◌∙◌}
use mathlib.Core.List.{List}
use Prim.Native.Nat.{ℕ, ◌+◌, ◌/◌, ◌≤◌, ◌<◌}
use native.Mathlib.Omega.{arith}
use lib.ListN.{length, get_or, replicate}
use Rattle.hashing.specs.Lists.{bits}
use Rattle.hashing.proofs.Words.{zero_at}
use Rattle.ring.specs.Polynomials.{Poly}
use Rattle.ring.specs.inner.Sizes.{words}
use Rattle.exchange.proofs.error.Laws.{front_bits, front_in, front_half, other_half}
use Rattle.exchange.proofs.error.split.Goals as goal
use Rattle.exchange.proofs.error.split.Goals.{After-place, After-filled-front, Start}

room : (c : Start) → c.args.r / 64 + 1 ≤ length c.args.all
room c = omega arith

blank : (front : List ℕ) → front ≡ replicate words 0 → (j : ℕ) → get_or front j 0 ≡ 0
blank front is j = ap (λ (xs : List ℕ). get_or xs j 0) is ∙ zero_at words j

pub returns : goal.returns
returns c =
    let r = c.args.r in
    let all = bits 64 c.args.all in
    let e0 : Poly = bits 64 c.cut-half0.result in
    let first : (k : ℕ) → k < r → e0 k ≡ all k = λ k below. c.cut-half0.ensures.fact_2 k below ∙ front_bits (c.args.r / 64 + 1) c.args.all c.filled-front.result c.place.new.t (room (goal.at.returns c).Start) (blank c.filled-front.result c.filled-front.ensures) c.place.ensures.outside c.place.ensures.by_index k (omega arith) in (
      front_half r all e0 c.cut-half0.ensures.fact_1 first,
      c.sum-half1.ensures ∙ other_half r all e0 (bits 64 c.reduce.result) c.cut-half0.ensures.fact_1 first c.reduce.ensures.0 c.reduce.ensures.1,
    )

pub cut-half0-requires : goal.cut-half0-requires
cut-half0-requires c =
    record {
      fact_1 = c.requires.1;
      fact_2 = front_in (c.args.r / 64 + 1) c.args.all c.filled-front.result c.place.new.t (room (goal.at.cut-half0-requires c).Start) (blank c.filled-front.result c.filled-front.ensures) c.place.ensures.outside c.place.ensures.by_index;
    }
