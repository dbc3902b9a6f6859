-- `write` gives both keys: h0 has an inverse.
use mathlib.Core.Path.{◌≡◌, ap, ◌∙◌}
use native.Mathlib.Omega.{arith}
use lib.ListN.{length, length-drop}
use Rattle.hashing.specs.Lists.{bits}
use Rattle.ring.specs.Bytes.{bytes_of}
use Rattle.ring.specs.Levels.{level_of}
use Rattle.ring.specs.Polynomials.{inverse_of}
use Rattle.ring.proofs.Inverses.{inverse_found}
use Rattle.ring.proofs.Ring.{mul_comm}
use Rattle.ring.proofs.Levels.{r_pos, r_odd, r_small, r_cycle, sizes}
use Rattle.exchange.specs.Scheme.{h0_of, h1_of, sigma_of, public_of}
use Rattle.exchange.proofs.Judged.{making_clear}
use Rattle.exchange.proofs.Parts.{rest_all}
use Rattle.exchange.proofs.keys.Laws.{Half, half_is, h0_half, h1_half, h0_inverts}
use Rattle.exchange.proofs.keys.write.Goals as goal
use Rattle.exchange.proofs.keys.write.Goals.{After-invert_unit-inverse, Start}

-- both halves are the seed's, and have weight d
half0 : (c : Start) → let l = level_of c.args.level in Half l.r l.d (h0_of l c.args.seed.now)
half0 c = h0_half (level_of c.args.level) c.args.seed.now c.requires.fact_2

half1 : (c : Start) → let l = level_of c.args.level in Half l.r l.d (h1_of l c.args.seed.now)
half1 c = h1_half (level_of c.args.level) c.args.seed.now c.requires.fact_2

pub invert_unit-inverse-requires : goal.invert_unit-inverse-requires
invert_unit-inverse-requires c =
    let level = c.args.level in
    let bounds = sizes level in
    let half = half0 (goal.at.invert_unit-inverse-requires c).Start in
    record {
      fact_1 = rw c.block-r.ensures (r_odd level, omega arith, r_small level, r_cycle level);
      fact_2 = rw (c.block-r.ensures, c.requires.fact_3.0) half.inside;
      fact_3 = rw (c.block-r.ensures, c.key_weight-d.ensures, c.requires.fact_3.0) (λ few. half.weighs);
      fact_4 = rw (c.block-r.ensures, c.requires.fact_3.0) (h0_inverts level _ c.requires.fact_2);
    }

-- what `invert_unit` gives, of the seed
inverse : (c : After-invert_unit-inverse) →
    let l = level_of c.args.level in
    bits 64 c.invert_unit-inverse.result ≡ inverse_of l.r (h0_of l c.args.seed.now)
inverse c =
    rw (c.block-r.ensures, c.requires.fact_3.0) at c.invert_unit-inverse.ensures

pub times-requires : goal.times-requires
times-requires c =
    let level = c.args.level in
    let bounds = sizes level in
    let there = h0_inverts level c.args.seed.now c.requires.fact_2 in
    let half = half1 (goal.at.times-requires c).Start in
    record {
      fact_1 = rw c.block-r.ensures (r_odd level, omega arith, r_small level);
      fact_2 = rw (c.block-r.ensures, inverse (goal.at.times-requires c).After-invert_unit-inverse, c.requires.fact_3.1)
          ((inverse_found _ (r_pos level) _ there).inside, half.inside);
      fact_3 = rw (c.block-r.ensures, c.key_weight-d.ensures, c.requires.fact_3.1) (λ few. half.weighs);
    }

pub store-requires : goal.store-requires
store-requires c =
    let is = making_clear c.requires.fact_1 in
    omega (arith, sizes c.args.level)

-- sigma is the rest of the seed
pub tail_of-tail-requires : goal.tail_of-tail-requires
tail_of-tail-requires c =
    let is = making_clear c.requires.fact_1 in
    omega (arith, ap length (rest_all 32 c.args.seed.now) ∙ length-drop 32 c.args.seed.now)

pub write_private-requires : goal.write_private-requires
write_private-requires c =
    let is = making_clear c.requires.fact_1 in
    let zero = half_is c.requires.fact_3.0 (half0 (goal.at.write_private-requires c).Start) in
    let one = half_is c.requires.fact_3.1 (half1 (goal.at.write_private-requires c).Start) in
    record { fact_1 = omega arith; fact_2 = (zero.inside, one.inside); fact_3 = (zero.weighs, one.weighs) }

pub returns : goal.returns
unfolding bytes_of public_of sigma_of
returns c =
    let product = (rw (c.block-r.ensures, c.requires.fact_3.1, inverse (goal.at.returns c).After-invert_unit-inverse) at c.times.ensures) ∙ mul_comm _ _ _ in
    let public = rw (product, (making_clear c.requires.fact_1).public_room) at c.store.ensures in
    let private = rw (c.requires.fact_3.0, c.requires.fact_3.1, c.tail_of-tail.ensures, rest_all 32 c.args.seed.now, public) at c.write_private.ensures in
    (public, private)

pub slice_bounds-tail_of-count : goal.slice_bounds-tail_of-count
slice_bounds-tail_of-count c = let is = making_clear c.requires.fact_1 in omega arith

pub slice_bounds-tail_of-start : goal.slice_bounds-tail_of-start
slice_bounds-tail_of-start c = let is = making_clear c.requires.fact_1 in omega arith
