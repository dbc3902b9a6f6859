-- `addends_of`: the positions from r on are the exponents of e1.
use mathlib.Core.Path.{◌≡◌, sym, ap, ◌∙◌}
use mathlib.Core.List.{List}
use Prim.Native.Nat.{ℕ, ◌+◌, ◌≤◌, ◌<◌}
use native.Mathlib.Omega.{arith}
use lib.ListN.{length, get_or, take}
use lib.Seq.{length-take-le, get_or-take}
use Rattle.hashing.specs.Lists.{bits}
use Rattle.ring.specs.Levels.{level_of}
use Rattle.ring.specs.Polynomials.{Poly, mul}
use Rattle.ring.proofs.Levels.{sizes}
use Rattle.exchange.specs.Sampler.{sample_error}
use Rattle.exchange.specs.Scheme.{error_positions, hash_h}
use Rattle.exchange.proofs.Errors.{error_below, error_upper}
use Rattle.exchange.proofs.error.Laws.{listed_at}
use Rattle.exchange.proofs.sampler.Laws.{front_long, sample-length}
use Rattle.exchange.proofs.wrapping.addends_of.Goals as goal
use Rattle.exchange.proofs.wrapping.addends_of.Goals.{After-positions-sampled}

room : (c : After-positions-sampled) → c.error_weight-t.result ≤ length c.positions-sampled.result.list
unfolding error_positions sample_error
room c = rw c.error_weight-t.ensures (front_long _ _ (ap length c.positions-sampled.ensures.0 ∙ sample-length _ _ _))

listed_is : (c : After-positions-sampled) →
    let given = c.args in
    take c.error_weight-t.result c.positions-sampled.result.list ≡ error_positions (level_of given.level) given.message.now
listed_is c = rw c.error_weight-t.ensures c.positions-sampled.ensures.0

-- each position is below 2r
below : (c : After-positions-sampled) (i : ℕ) → i < c.error_weight-t.result
    → get_or c.positions-sampled.result.list i 0 < (level_of c.args.level).r + (level_of c.args.level).r
below c i more =
    let given = c.args in
    let t = c.error_weight-t.result in
    let list = c.positions-sampled.result.list in
    let sampled = error_positions (level_of given.level) given.message.now in
    let long : length sampled ≡ t = ap length (sym (listed_is c)) ∙ length-take-le t list (room c) in
    let same : get_or list i 0 ≡ get_or sampled i 0 = sym (get_or-take t list i 0 more) ∙ ap (λ (xs : List ℕ). get_or xs i 0) (listed_is c) in
    let small = error_below given.level given.message.now (get_or sampled i 0) (listed_at sampled i (rw long more)) in
    rw same (omega arith)

pub halves-e-requires : goal.halves-e-requires
halves-e-requires c =
    let given = c.args in rw (listed_is (goal.at.halves-e-requires c).After-positions-sampled) (error_below given.level given.message.now)

pub sparse_upper-product-requires : goal.sparse_upper-product-requires
sparse_upper-product-requires c =
    let bounds = sizes c.args.level in
    let t = c.error_weight-t.ensures in
    record {
      fact_1 = rw c.block.ensures (omega arith, omega arith, room (goal.at.sparse_upper-product-requires c).After-positions-sampled, omega arith);
      fact_2 = rw c.block.ensures c.requires;
      fact_3 = rw c.block.ensures (below (goal.at.sparse_upper-product-requires c).After-positions-sampled);
    }

pub returns : goal.returns
unfolding hash_h
returns c =
    let l = level_of c.args.level in
    let h = bits 64 c.args.h in
    let e = rw (listed_is (goal.at.returns c).After-positions-sampled) at c.halves-e.ensures in (
      e.0,
      e.1,
      (rw (c.block.ensures, listed_is (goal.at.returns c).After-positions-sampled) at c.sparse_upper-product.ensures)
          ∙ ap (λ (a : Poly). mul l.r a h) (error_upper c.args.level c.args.message.now),
    )

pub shared_ref_as_front-halves : goal.shared_ref_as_front-halves
shared_ref_as_front-halves c = omega (arith, sizes c.args.level)
