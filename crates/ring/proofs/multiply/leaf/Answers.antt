-- `multiply::leaf` meets its contract. Assumes nothing.
use mathlib.Core.Path.{◌∙◌}
use native.Mathlib.Omega.{arith}
use Rattle.hashing.specs.Lists.{bits}
use Rattle.ring.proofs.multiply.Laws.{words_in}
use Rattle.ring.proofs.multiply.Parts.{leaf_product}
use Rattle.ring.proofs.multiply.leaf.Goals as goal
use Rattle.ring.proofs.multiply.leaf.Goals.{After-x-1}

pub returns : goal.returns
returns c =
    let p = c.place in
    let m = c.multiples in
    let a = c.args in
    let b = a.b.now in
    let long = c.requires.3 in (
      m.ensures.0,
      leaf_product a.n b c.comb-x.result p.new.t (bits 64 a.a.now) long (p.auto.t ∙ c.requires.4) (omega arith) p.ensures.by_index
          (c.comb-x.ensures (bits 64 b) m.ensures.1 (words_in a.n b long)),
    )
