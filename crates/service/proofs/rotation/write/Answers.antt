-- `write` turns both halves and writes them as key making does, with the tail as it stands.
use mathlib.Core.Path.{◌≡◌, sym, ap, ◌∙◌}
use Prim.Native.Nat.{ℕ, ◌+◌, ◌-◌, ◌*◌, ◌≤◌}
use native.Mathlib.Omega.{arith}
use lib.ListN.{length, take, drop, length-drop}
use lib.Seq.{length-take-le}
use Rattle.hashing.specs.Lists.{bits}
use Rattle.ring.specs.Levels.{level_of, tail_bytes}
use Rattle.ring.proofs.Levels.{r_small, sizes}
use Rattle.exchange.specs.decoder.PrivateKey.{positions0, positions1, secret, tail}
use Rattle.exchange.proofs.Parts.{rest_all}
use Rattle.exchange.proofs.keys.Laws.{half_is}
use Rattle.service.specs.Rotation.{turned, turned_pair, rotated}
use Rattle.service.proofs.Judged.{rotate_clear}
use Rattle.service.proofs.Keys
use Rattle.service.proofs.rotation.write.Goals as goal
use Rattle.service.proofs.rotation.write.Goals.{After-read_key-key, After-turned-half0, After-turned-half1}

-- the positions of each half, as they were read
room : (c : After-read_key-key) → (c.key_weight-d.result ≤ length c.read_key-key.result.half0) × (c.key_weight-d.result ≤ length c.read_key-key.result.half1)
room c =
    let few = sizes c.args.level in
    let weight = c.key_weight-d.ensures in
    (omega (arith, c.read_key-key.ensures.fact_1.0), omega (arith, c.read_key-key.ensures.fact_2.0))

list0 : (c : After-read_key-key) →
    let given = c.args in
    take c.key_weight-d.result c.read_key-key.result.half0 ≡ positions0 (level_of given.level) given.private_key.now
list0 c = ap (λ (n : ℕ). take n c.read_key-key.result.half0) c.key_weight-d.ensures ∙ c.read_key-key.ensures.fact_1.1

list1 : (c : After-read_key-key) →
    let given = c.args in
    take c.key_weight-d.result c.read_key-key.result.half1 ≡ positions1 (level_of given.level) given.private_key.now
list1 c = ap (λ (n : ℕ). take n c.read_key-key.result.half1) c.key_weight-d.ensures ∙ c.read_key-key.ensures.fact_2.1

pub turned-half0-requires : goal.turned-half0-requires
unfolding secret
turned-half0-requires c =
    let few = sizes c.args.level in
    let long = length-take-le c.key_weight-d.result c.read_key-key.result.half0 (room (goal.at.turned-half0-requires c).After-read_key-key).0 in
    let weight = c.key_weight-d.ensures in
    let within = (rotate_clear c.requires).within in
    record {
      fact_1 = rw c.block-r.ensures (omega arith, r_small c.args.level, omega arith);
      fact_2 = rw c.block-r.ensures (rw (list0 (goal.at.turned-half0-requires c).After-read_key-key) (Keys.half0 c.args.level c.args.private_key.now (rotate_clear c.requires).good_positions).inside);
    }

pub turned-half1-requires : goal.turned-half1-requires
unfolding secret
turned-half1-requires c =
    let few = sizes c.args.level in
    let long = length-take-le c.key_weight-d.result c.read_key-key.result.half1 (room (goal.at.turned-half1-requires c).After-read_key-key).1 in
    let weight = c.key_weight-d.ensures in
    let within = (rotate_clear c.requires).within in
    record {
      fact_1 = rw c.block-r.ensures (omega arith, r_small c.args.level, omega arith);
      fact_2 = rw c.block-r.ensures (rw (list1 (goal.at.turned-half1-requires c).After-read_key-key) (Keys.half1 c.args.level c.args.private_key.now (rotate_clear c.requires).good_positions).inside);
    }

-- the words of each half
words0 : (c : After-turned-half0) →
    let given = c.args in
    bits 64 c.turned-half0.result ≡ turned (level_of given.level).r given.k (secret (level_of given.level) given.private_key.now).half0
unfolding secret
words0 c =
    rw (c.block-r.ensures, ap (λ (n : ℕ). take n c.read_key-key.result.half0) c.key_weight-d.ensures ∙ c.read_key-key.ensures.fact_1.1) at c.turned-half0.ensures

words1 : (c : After-turned-half1) →
    let given = c.args in
    bits 64 c.turned-half1.result ≡ turned (level_of given.level).r given.k (secret (level_of given.level) given.private_key.now).half1
unfolding secret
words1 c =
    rw (c.block-r.ensures, ap (λ (n : ℕ). take n c.read_key-key.result.half1) c.key_weight-d.ensures ∙ c.read_key-key.ensures.fact_2.1) at c.turned-half1.ensures

-- what is left of the private key behind the positions
rest_long : (c : After-read_key-key) →
    let at = 4 * c.key_weight-d.result in
    let key = c.args.private_key.now in
    length (take (length key - at) (drop at key)) ≡ tail_bytes
rest_long c =
    let key = c.args.private_key.now in
    let size = (rotate_clear c.requires).key_size in
    ap length (rest_all (4 * c.key_weight-d.result) key) ∙ length-drop (4 * c.key_weight-d.result) key ∙ omega (arith, c.key_weight-d.ensures)

start_within : (c : After-turned-half1) →
    4 * c.key_weight-d.result ≤ length c.args.private_key.now
start_within c =
    let size = (rotate_clear c.requires).key_size in
    omega (arith, c.key_weight-d.ensures)

pub write_private-requires : goal.write_private-requires
write_private-requires c =
    let is = rotate_clear c.requires in
    let first = half_is (words0 (goal.at.write_private-requires c).After-turned-half0) (Keys.first c.args.level c.args.private_key.now is.good_positions c.args.k) in
    let second = half_is (words1 (goal.at.write_private-requires c).After-turned-half1) (Keys.second c.args.level c.args.private_key.now is.good_positions c.args.k) in
    let rest = rest_long (goal.at.write_private-requires c).After-read_key-key in
    record {
      fact_1 = is.room_is ∙ omega arith;
      fact_2 = (first.inside, second.inside);
      fact_3 = (first.weighs, second.weighs);
    }

pub returns : goal.returns
unfolding rotated turned_pair tail
returns c =
    let key = c.args.private_key.now in
    let at : 4 * c.key_weight-d.result ≡ 2 * ((level_of c.args.level).d + (level_of c.args.level).d) = omega (arith, c.key_weight-d.ensures) in
    rw (words0 (goal.at.returns c).After-turned-half0, words1 (goal.at.returns c).After-turned-half1, rest_all (4 * c.key_weight-d.result) key, at) at c.write_private.ensures

pub overflow_mul-at : goal.overflow_mul-at
overflow_mul-at c = omega (arith, sizes c.args.level, c.key_weight-d.ensures)

pub read_key-key-requires : goal.read_key-key-requires
read_key-key-requires c = (rotate_clear c.requires).key_size

pub slice_bounds-turned-end : goal.slice_bounds-turned-end
slice_bounds-turned-end c = sym (length-take-le _ _ (room (goal.at.slice_bounds-turned-end c).After-read_key-key).0)

pub slice_bounds-turned-end-2 : goal.slice_bounds-turned-end-2
slice_bounds-turned-end-2 c = sym (length-take-le _ _ (room (goal.at.slice_bounds-turned-end-2 c).After-read_key-key).1)

pub slice_bounds-write_private-count : goal.slice_bounds-write_private-count
slice_bounds-write_private-count c = start_within (goal.at.slice_bounds-write_private-count c).After-turned-half1

pub slice_bounds-write_private-start : goal.slice_bounds-write_private-start
slice_bounds-write_private-start c = start_within (goal.at.slice_bounds-write_private-start c).After-turned-half1

pub shared_ref_as_front-turned : goal.shared_ref_as_front-turned
shared_ref_as_front-turned c = omega (arith, sizes c.args.level, c.key_weight-d.ensures)
