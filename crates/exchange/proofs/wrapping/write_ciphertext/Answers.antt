-- `write_ciphertext` writes c0 at the front and c1 after it.
use mathlib.Core.Path.{◌≡◌, ap, ap₂, ◌∙◌}
use mathlib.Core.List.{◌++◌}
use native.Mathlib.Omega.{arith}
use lib.ListN.{length, take}
use lib.Seq.{length-take-le}
use Rattle.ring.specs.Bytes.{bytes_of}
use Rattle.ring.specs.Levels.{level_of}
use Rattle.ring.proofs.Levels.{r_pos, sizes}
use Rattle.ring.proofs.Ring.{mul_in}
use Rattle.exchange.specs.Scheme.{key_digest, bound_h, hash_l, wrapped}
use Rattle.exchange.proofs.Errors.{error_in0}
use Rattle.exchange.proofs.Parts.{two_parts}
use Rattle.exchange.proofs.wrapping.write_ciphertext.Goals as goal
use Rattle.exchange.proofs.wrapping.write_ciphertext.Goals.{After-polynomial-n, After-stored-b}

cut : (c : After-polynomial-n) →
    let n = c.polynomial-n.result in
    length (take n c.args.out.now) ≡ n
cut c = length-take-le _ _ (let long = c.requires.fact_1.2 in omega arith)

pub write_c0-requires : goal.write_c0-requires
write_c0-requires c =
    let l = level_of c.args.level in
    record {
      fact_1 = cut (goal.at.write_c0-requires c).After-polynomial-n ∙ c.polynomial-n.ensures;
      fact_2 = rw c.bound_addends-a.ensures.0 (error_in0 l _);
      fact_3 = rw c.bound_addends-a.ensures.2 (mul_in l.r (r_pos c.args.level) _ _);
    }

-- the bytes of the message's error, at the front of their arrays
b0_is : (c : After-stored-b) →
    let given = c.args in
    let l = level_of given.level in
    take c.polynomial-n.result c.stored-b.result.half0 ≡ bytes_of l.r (bound_h l (key_digest given.h.now) given.message.now).half0
b0_is c =
    rw c.polynomial-n.ensures (c.stored-b.ensures.0 ∙ ap (bytes_of _) c.bound_addends-a.ensures.0)

b1_is : (c : After-stored-b) →
    let given = c.args in
    let l = level_of given.level in
    take c.polynomial-n.result c.stored-b.result.half1 ≡ bytes_of l.r (bound_h l (key_digest given.h.now) given.message.now).half1
b1_is c =
    rw c.polynomial-n.ensures (c.stored-b.ensures.1 ∙ ap (bytes_of _) c.bound_addends-a.ensures.1)

pub returns : goal.returns
unfolding wrapped hash_l
returns c =
    two_parts _ c.write_c0.new.out c.write_c1.new.out c.args.out.now (c.write_c0.auto.out ∙ cut (goal.at.returns c).After-polynomial-n)
    ∙ ap₂ ◌++◌
    (rw (c.bound_addends-a.ensures.0, c.bound_addends-a.ensures.2) at c.write_c0.ensures)
    (rw (b0_is (goal.at.returns c).After-stored-b, b1_is (goal.at.returns c).After-stored-b) at c.write_c1.ensures)

pub shared_ref_as_front-write_c1 : goal.shared_ref_as_front-write_c1
shared_ref_as_front-write_c1 c = omega (arith, sizes c.args.level)
