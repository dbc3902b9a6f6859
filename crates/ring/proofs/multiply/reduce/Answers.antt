-- `multiply::reduce` meets its contract: i words are done, and those from there on are 0. Assumes nothing.
use mathlib.Core.Path.{◌≡◌, refl, sym, ap, ap₂, ◌∙◌}
use Prim.Native.Nat.{ℕ, ◌+◌, ◌-◌, ◌*◌, ◌/◌, ◌%◌}
use native.Mathlib.Omega.{arith}
use lib.Bits.{bit_xor}
use lib.ListN.{get_or}
use Rattle.ring.proofs.Packed.{bit-flip}
use Rattle.hashing.specs.Lists.{bits}
use Rattle.hashing.proofs.Words.{bits_at}
use Rattle.ring.specs.Polynomials.{flip}
use Rattle.ring.proofs.words.Laws.{two_words, done_none, done_more, done_below, done_above}
use Rattle.ring.proofs.multiply.Laws.{folded}
use Rattle.ring.proofs.multiply.reduce.Goals as goal
use Rattle.ring.proofs.multiply.reduce.Goals.{After-loop-i}

pub loop-i-preserved : goal.loop-i-preserved
loop-i-preserved c =
    let l = c.loop-i in
    let a = c.args in
    let q = a.r / 64 in (
      omega arith,
      done_more (folded a.x a.r) l.i (bit_xor (get_or a.x l.i 0) c.funnel.result) l.y
          (omega arith) l.invariant.1
          (λ e h.
          let far : 64 * (l.i + q) + (64 - (64 - a.r % 64) + e) ≡ 64 * l.i + e + a.r = omega arith in
          bit-flip (get_or a.x l.i 0) c.funnel.result e
          ∙ ap₂ flip (sym (bits_at 64 a.x l.i e refl h))
          (c.funnel.ensures e h ∙ two_words a.x (l.i + q) (64 - (64 - a.r % 64) + e) (omega arith) ∙ ap (bits 64 a.x) far)),
    )

all : (c : After-loop-i) → c.loop-i.i ≡ c.args.r / 64 + 1
all c = omega arith

pub returns : goal.returns
returns c =
    let l = c.loop-i in
    let a = c.args in
    let whole : 64 * l.i ≡ 64 * (a.r / 64 + 1) = ap (λ (i : ℕ). 64 * i) (all (goal.at.returns c).After-loop-i) in
    (c.cut.ensures.fact_1, λ k h. c.cut.ensures.fact_2 k h ∙ done_below (folded a.x a.r) l.i l.y l.invariant.1 k (omega arith))

pub loop-i-init : goal.loop-i-init
loop-i-init c = (
  omega arith,
  done_none (folded c.args.x c.args.r) c.filled-y.result c.filled-y.ensures,
)

pub cut-requires : goal.cut-requires
cut-requires c = let a = c.args in
    record {
      fact_1 = omega arith;
      fact_2 = rw (← all (goal.at.cut-requires c).After-loop-i) (done_above (folded a.x a.r) c.loop-i.i c.loop-i.y c.loop-i.invariant.1);
    }
