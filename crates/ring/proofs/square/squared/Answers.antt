-- `squared` squares a few times one after another, or permutes by the inverse of 2^k, which is the map of exponents by 2^k.
use mathlib.Core.Path.{sym, ◌∙◌}
use native.Mathlib.Omega.{arith}
use Rattle.hashing.specs.Lists.{bits}
use Prim.Native.Nat.{◌^◌, ◌<◌}
use Rattle.ring.proofs.Ring.{ring_ext}
use Rattle.ring.proofs.Powers.{spread_in, spread_at}
use Rattle.ring.proofs.square.squared.Goals as goal

pub returns : goal.returns
returns c =
    let given = c.args in
    let r = given.r in
    let n = c.halved.result in
    let pos : 0 < r = omega arith in
    ring_ext r c.cut.ensures.fact_1 (spread_in r pos (2 ^ given.k) (bits 64 given.x))
    (λ k below.
    c.cut.ensures.fact_2 k below ∙ c.permuted.ensures.fact_2 k (omega arith)
    ∙ sym (spread_at r pos (2 ^ given.k) n c.halved.ensures.1 (bits 64 given.x) k below))
