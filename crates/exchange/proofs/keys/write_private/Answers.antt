-- `write_private` writes the first half at the front, and the second and the tail after it.
use mathlib.Core.Path.{◌≡◌, ap₂, ◌∙◌}
use mathlib.Core.List.{◌++◌}
use Prim.Native.Nat.{◌*◌}
use native.Mathlib.Omega.{arith}
use lib.ListN.{length, take}
use lib.Seq.{length-take-le}
use Rattle.exchange.specs.Scheme.{private_key_of}
use Rattle.exchange.proofs.Parts.{two_parts}
use Rattle.exchange.proofs.keys.write_private.Goals as goal
use Rattle.exchange.proofs.keys.write_private.Goals.{After-key_weight-n, After-write_half}

cut : (c : After-key_weight-n) →
    let n = 2 * c.key_weight-n.result in
    length (take n c.args.out.now) ≡ n
cut c = length-take-le _ _ (let long = c.requires.fact_1 in omega (arith, c.key_weight-n.ensures))

pub returns : goal.returns
unfolding private_key_of
returns c =
    two_parts _ c.write_half.new.out c.write_rest.new.out c.args.out.now
    (c.write_half.auto.out ∙ cut (goal.at.returns c).After-key_weight-n)
    ∙ ap₂ ◌++◌ c.write_half.ensures c.write_rest.ensures
