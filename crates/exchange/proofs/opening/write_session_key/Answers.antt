-- `write_session_key` hashes m' again and chooses by the comparison.
use mathlib.Core.Path.{◌≡◌, ap, ◌∙◌}
use mathlib.Core.List.{List}
use Prim.Native.Nat.{ℕ}
use native.Mathlib.Omega.{arith}
use lib.Dec.{eqb}
use lib.ListN.{length}
use Rattle.hashing.specs.Lists.{bits}
use Rattle.hashing.proofs.Lists.{length-tab}
use Rattle.ring.specs.Levels.{level_of, message_bytes}
use Rattle.ring.specs.Polynomials.{add}
use Rattle.ring.proofs.Levels.{sizes}
use Rattle.exchange.specs.Opening.{message_of, same_error, either, key_for}
use Rattle.exchange.specs.decoder.Decoder.{Pair}
use Rattle.exchange.specs.Scheme.{xor_bytes, bound_h, hash_l, hash_k}
use Rattle.exchange.proofs.Errors.{error_in0, error_in1}
use Rattle.exchange.proofs.Parts.{front_room}
use Rattle.exchange.proofs.decoder.Laws.{weight_le}
use Rattle.exchange.proofs.opening.Laws.{nothing-differs}
use Rattle.exchange.proofs.opening.write_session_key.Goals as goal
use Rattle.exchange.proofs.opening.write_session_key.Goals.{After-differences-differing, After-message_of-m}

-- the error that two arrays of words hold
abbrev error_in : List ℕ → List ℕ → Pair
error_in e0 e1 = record { half0 = bits 64 e0; half1 = bits 64 e1 }

pub message_of-m-requires : goal.message_of-m-requires
message_of-m-requires c =
    record {
      fact_1 = c.requires.fact_1.1;
      fact_2 = (front_room _ _ _ c.stored.ensures.0, front_room _ _ _ c.stored.ensures.1);
    }

pub differences-differing-requires : goal.differences-differing-requires
differences-differing-requires c =
    let l = level_of c.args.level in
    let m = c.bound-tied.result in
    record {
      fact_1 = (c.requires.fact_2, c.requires.fact_3);
      fact_2 = (rw c.words_of.ensures.0 (error_in0 l m), rw c.words_of.ensures.1 (error_in1 l m));
    }

pub chosen-secret-requires : goal.chosen-secret-requires
unfolding xor_bytes
chosen-secret-requires c =
    let bounds = sizes c.args.level in
    let r = (level_of c.args.level).r in
    let few0 = weight_le r (add (bits 64 c.args.e.half0) (bits 64 c.words_of.result.words.half0)) in
    let few1 = weight_le r (add (bits 64 c.args.e.half1) (bits 64 c.words_of.result.words.half1)) in
    (omega (arith, c.differences-differing.ensures), ap length c.message_of-m.ensures ∙ length-tab message_bytes _, c.requires.fact_1.0)

message : (c : After-message_of-m) →
    let given = c.args in
    c.message_of-m.result ≡ message_of (level_of given.level) (error_in given.e.half0 given.e.half1) given.ciphertext.now
unfolding message_of hash_l
message c = rw (c.stored.ensures.0, c.stored.ensures.1) at c.message_of-m.ensures

own : (c : After-differences-differing) →
    let l = level_of c.args.level in
    eqb c.differences-differing.result 0
    ≡ same_error l.r (error_in c.args.e.half0 c.args.e.half1) (bound_h l c.args.digest.now c.message_of-m.result)
own c =
    let l = level_of c.args.level in
    let again = c.words_of.ensures in
    rw (c.differences-differing.ensures, again.0, again.1, c.bound-tied.ensures)
    (nothing-differs l.r (error_in c.args.e.half0 c.args.e.half1) (bound_h l c.args.digest.now c.message_of-m.result))

pub returns : goal.returns
unfolding key_for
returns c =
    let given = c.args in
    let l = level_of given.level in
    let e = error_in given.e.half0 given.e.half1 in
    (rw (c.chosen-secret.ensures, own (goal.at.returns c).After-differences-differing) at c.write_key.ensures)
    ∙ ap (λ (m : List ℕ). hash_k (either (same_error l.r e (bound_h l given.digest.now m)) m given.sigma.now) given.ciphertext.now) (message (goal.at.returns c).After-message_of-m)
