-- `twice` fills up the word of r from the first word, and goes on from there, not as far as the empty window.
use mathlib.Core.Path.{◌≡◌, ap, ◌∙◌}
use Prim.Native.Nat.{◌+◌, ◌/◌, ◌%◌}
use native.Mathlib.Omega.{arith}
use Rattle.hashing.specs.Lists.{bits}
use Rattle.ring.specs.Polynomials.{Poly}
use Rattle.ring.proofs.Packed.{bits_set_other}
use Rattle.ring.proofs.multiply.Parts.{bits_front}
use Rattle.ring.proofs.sparse.Laws.{filled_up}
use Rattle.ring.proofs.sparse.twice.Goals as goal

pub returns : goal.returns
returns c =
    let r = c.args.r in
    let copy = c.padded-d.result in
    let same : bits 64 copy ≡ bits 64 c.args.x =
    c.padded-d.ensures ∙ bits_front (r / 64 + 1) c.args.x (omega arith) (λ k past. c.requires.fact_2 k (omega arith)) in
    let whole = c.extend.ensures in record {
      fact_1 = λ k below. whole.fact_1 (bits 64 c.args.x) (λ j low. filled_up r copy (omega arith) (omega arith) (rw same c.requires.fact_2) j low
          ∙ ap (λ (p : Poly). p (j % r)) same) k (omega arith);
      fact_2 = λ k past.
          whole.fact_2 k past ∙ bits_set_other copy (r / 64) _ k (λ e. omega arith)
          ∙ ap (λ (p : Poly). p k) same ∙ c.requires.fact_2 k (omega arith);
    }
