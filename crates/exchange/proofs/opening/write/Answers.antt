-- `write` decodes c0·h0 under the key that was read, and hands on what was found.
use mathlib.Core.Path.{◌≡◌, sym, ap, ap₂, ◌∙◌}
use Prim.Native.Nat.{ℕ, ◌+◌, ◌*◌, ◌-◌, ◌≤◌}
use native.Mathlib.Omega.{arith}
use lib.ListN.{length, take, drop, length-drop}
use lib.Seq.{length-take-le, drop-drop}
use Rattle.hashing.specs.Lists.{bits}
use Rattle.ring.specs.Levels.{level_of, message_bytes, poly_bytes}
use Rattle.ring.specs.Polynomials.{InRing, mul}
use Rattle.ring.proofs.Layouts.{pad_rule}
use Rattle.ring.proofs.Levels.{r_pos, sizes}
use Rattle.ring.proofs.Ring.{mul_in}
use Rattle.exchange.specs.decoder.Decoder.{Pair, bgf, found}
use Rattle.exchange.specs.decoder.PrivateKey.{tail, sigma, digest_in}
use Rattle.exchange.specs.inner.Working.{key_of, Good}
use Rattle.exchange.specs.Opening.{syndrome_of, key_for, opened}
use Rattle.exchange.proofs.Judged.{opening_clear}
use Rattle.exchange.proofs.Parts.{rest_all}
use Rattle.exchange.proofs.Streams.{below_take}
use Rattle.exchange.proofs.decoder.Laws.{bgf_in, found_in, inside_by, read_secret, good_read}
use Rattle.exchange.proofs.opening.write.Goals as goal
use Rattle.exchange.proofs.opening.write.Goals.{After-key_weight-at, After-load, After-polynomial-n, After-read_key-key}

-- c0 is the front of the ciphertext
cut : (c : After-polynomial-n) →
    let n = c.polynomial-n.result in
    length (take n c.args.ciphertext.now) ≡ n
cut c =
    let is = opening_clear c.requires in length-take-le _ _ (omega (arith, is.ciphertext_size, c.polynomial-n.ensures))

c0_is : (c : After-load) →
    let given = c.args in
    bits 64 c.load.result ≡ bits 8 (take (poly_bytes (level_of given.level)) given.ciphertext.now)
c0_is c = rw c.polynomial-n.ensures at c.load.ensures

c0_in : (c : After-load) → InRing (level_of c.args.level).r (bits 64 c.load.result)
c0_in c =
    let given = c.args in
    let is = opening_clear c.requires in
    let n = poly_bytes (level_of given.level) in
    rw (c0_is c)
    ((pad_rule _ _ (length-take-le n given.ciphertext.now (omega (arith, is.ciphertext_size))) (below_take 8 n given.ciphertext.now (λ i. (c.shared_slice_known-2-1.given i).fits))).0 is.content.no_pad)

good : (c : After-read_key-key) → Good (level_of c.args.level) c.read_key-key.result
good c =
    good_read _ c.read_key-key.result _ (c.read_key-key.ensures.fact_1, c.read_key-key.ensures.fact_2) (opening_clear c.requires).content.good_positions

-- sigma is the first 32 bytes after the positions
room : (c : After-key_weight-at) → 4 * c.key_weight-at.result + 32 ≤ length c.args.private_key.now
room c =
    let is = opening_clear c.requires in omega (arith, is.key_size, c.key_weight-at.ensures)

sigma_is : (c : After-key_weight-at) →
    let given = c.args in
    let key = given.private_key.now in
    let at = 4 * c.key_weight-at.result in
    take (at + 32 - at) (drop at key) ≡ sigma (level_of given.level) key
unfolding sigma tail
sigma_is c =
    let given = c.args in
    let d = (level_of given.level).d in
    let at : 4 * c.key_weight-at.result ≡ 2 * (d + d) = omega (arith, c.key_weight-at.ensures) in
    let size : 4 * c.key_weight-at.result + 32 - 4 * c.key_weight-at.result ≡ message_bytes = omega arith in
    ap₂ (λ (n k : ℕ). take n (drop k given.private_key.now)) size at

-- and the digest is what follows it
digest_is : (c : After-key_weight-at) →
    let given = c.args in
    let key = given.private_key.now in
    let end = 4 * c.key_weight-at.result + 32 in
    take (length key - end) (drop end key) ≡ digest_in (level_of given.level) key
unfolding digest_in tail
digest_is c =
    let given = c.args in
    let key = given.private_key.now in
    let d = (level_of given.level).d in
    let end : 4 * c.key_weight-at.result + 32 ≡ 2 * (d + d) + message_bytes = omega (arith, c.key_weight-at.ensures) in
    rest_all _ key ∙ ap (λ (n : ℕ). drop n key) end ∙ sym (drop-drop message_bytes (2 * (d + d)) key)

pub write_session_key-requires : goal.write_session_key-requires
write_session_key-requires c =
    let l = level_of c.args.level in
    let is = opening_clear c.requires in
    let inside = found_in bgf l (bgf_in l) (key_of l c.read_key-key.result) (bits 64 c.syndrome-s.result) in
    let at = 4 * c.key_weight-at.result in
    let rest = drop at c.args.private_key.now in
    let size : at + 32 - at ≡ message_bytes = omega arith in
    let sigma_long : length (take (at + 32 - at) rest) ≡ message_bytes =
    rw size (length-take-le message_bytes rest (omega (arith, length-drop at c.args.private_key.now, room (goal.at.write_session_key-requires c).After-key_weight-at))) in
    record {
      fact_1 = (sigma_long, is.ciphertext_size, is.key_room);
      fact_2 = (inside_by l.r c.find-e.ensures.1 inside).0;
      fact_3 = (inside_by l.r c.find-e.ensures.1 inside).1;
    }

pub returns : goal.returns
unfolding opened syndrome_of
returns c =
    let given = c.args in
    let l = level_of given.level in
    let c0 = bits 8 (take (poly_bytes l) given.ciphertext.now) in
    let key = read_secret _ c.read_key-key.result _ (c.read_key-key.ensures.fact_1, c.read_key-key.ensures.fact_2) in
    let s = c.syndrome-s.ensures ∙ ap₂ (λ (a : ℕ → _) (h : Pair). mul l.r a h.half0) (c0_is (goal.at.returns c).After-load) key in
    (rw (digest_is (goal.at.returns c).After-key_weight-at, sigma_is (goal.at.returns c).After-key_weight-at) at c.write_session_key.ensures)
    ∙ ap (key_for l (digest_in l given.private_key.now) (sigma l given.private_key.now) given.ciphertext.now)
    (c.find-e.ensures.1 ∙ ap₂ (found bgf l) key s)

pub overflow_mul-at : goal.overflow_mul-at
overflow_mul-at c = let fits = room (goal.at.overflow_mul-at c).After-key_weight-at in omega arith

pub overflow_add-end : goal.overflow_add-end
overflow_add-end c = let fits = room (goal.at.overflow_add-end c).After-key_weight-at in omega arith

pub read_key-key-requires : goal.read_key-key-requires
read_key-key-requires c = (opening_clear c.requires).key_size

pub slice_bounds-load-end : goal.slice_bounds-load-end
slice_bounds-load-end c = sym (cut (goal.at.slice_bounds-load-end c).After-polynomial-n)

pub load-requires : goal.load-requires
load-requires c = rw (cut (goal.at.load-requires c).After-polynomial-n) (omega (arith, c.polynomial-n.ensures, sizes c.args.level))

pub syndrome-s-requires : goal.syndrome-s-requires
syndrome-s-requires c =
    record {
      fact_1 = good (goal.at.syndrome-s-requires c).After-read_key-key;
      fact_2 = c0_in (goal.at.syndrome-s-requires c).After-load;
    }

pub find-e-requires : goal.find-e-requires
find-e-requires c = let level = c.args.level in
    record {
      fact_1 = good (goal.at.find-e-requires c).After-read_key-key;
      fact_2 = rw c.syndrome-s.ensures (mul_in _ (r_pos level) _ _);
    }

pub slice_bounds-write_session_key-end : goal.slice_bounds-write_session_key-end
slice_bounds-write_session_key-end c = room (goal.at.slice_bounds-write_session_key-end c).After-key_weight-at
