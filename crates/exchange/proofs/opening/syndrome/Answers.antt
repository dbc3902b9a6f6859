-- `syndrome` is a sparse product by the positions of h0.
use Prim.Native.Nat.{◌≤◌}
use native.Mathlib.Omega.{arith}
use lib.ListN.{length}
use Rattle.ring.proofs.Levels.{sizes}
use Rattle.exchange.proofs.decoder.Listing.{position_below, product}
use Rattle.exchange.proofs.opening.syndrome.Goals as goal

pub sparse-requires : goal.sparse-requires
sparse-requires c =
    let r = c.block in
    let d = c.key_weight in
    let size = sizes c.args.level in
    let h = c.args.key.half0 in
    let few : d.result ≤ length h = omega (arith, d.ensures, c.requires.fact_1.0.0) in
    record {
      fact_1 = (omega (arith, r.ensures), omega (arith, r.ensures), few, omega (arith, d.ensures));
      fact_2 = rw r.ensures c.requires.fact_2;
      fact_3 = position_below r.result d.result h few (rw (r.ensures, d.ensures) c.requires.fact_1.0.1);
    }

pub returns : goal.returns
returns c =
    rw (c.sparse.ensures, c.block.ensures, c.key_weight.ensures) (product _ 0 _ _ c.requires.fact_1.0.1)
