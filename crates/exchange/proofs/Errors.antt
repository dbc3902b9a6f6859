-- The error of H is a pair of polynomials of the ring, of weight t together. Assumes nothing.
use mathlib.Core.Path.{◌≡◌, sym, ap₂, ◌∙◌}
use mathlib.Core.Bool.{true}
use mathlib.Core.List.{List}
use Prim.Native.Nat.{ℕ, ◌+◌, ◌*◌, ◌<◌}
use native.Mathlib.Nat.{two-mul}
use native.Mathlib.Omega.{arith}
use borrow.Author.Tests.{lt-ltb, le-ltb}
use Rattle.hashing.specs.Sponge.{shake256}
use Rattle.ring.specs.Levels.{Level, level_of}
use Rattle.ring.specs.Polynomials.{InRing, weight, terms, listed}
use Rattle.ring.specs.inner.Upper.{upper}
use Rattle.ring.proofs.Upper.{upper-terms}
use Rattle.ring.specs.Bytes.{numbers}
use Rattle.exchange.specs.Sampler.{sample_error}
use Rattle.exchange.specs.Scheme.{split, error_positions, hash_h}
use Rattle.ring.proofs.Levels.{sizes}
use Rattle.exchange.proofs.Streams.{shake256_below, words_below}
use Rattle.ring.proofs.Weights.{weight_ext, weight-add}
use Rattle.exchange.proofs.sampler.Laws.{sample_below_lem, sample_distinct, sample-weight}

pub error_in0 : (l : Level) (m : List ℕ) → InRing l.r (hash_h l m).half0
unfolding hash_h split
error_in0 l m k past = rw (le-ltb k l.r past)

pub error_in1 : (l : Level) (m : List ℕ) → InRing l.r (hash_h l m).half1
unfolding hash_h split
error_in1 l m k past = rw (le-ltb k l.r past)

-- the halves together have what is listed below 2r
split-weight : (r : ℕ) (positions : List ℕ)
    → weight r (split r positions).half0 + weight r (split r positions).half1 ≡ weight (2 * r) (λ k. listed k positions)
unfolding split
split-weight r positions =
    ap₂ ◌+◌
    (weight_ext r {b = λ k. listed k positions} (λ k below. rw (lt-ltb k r below)))
    (weight_ext r {b = λ k. listed (r + k) positions} (λ k below. rw (lt-ltb k r below)))
    ∙ sym (rw (two-mul r) (weight-add r r (λ k. listed k positions)))

-- "weight t"
pub error_weight : (level : ℕ) (m : List ℕ) →
    let l = level_of level in
    weight l.r (hash_h l m).half0 + weight l.r (hash_h l m).half1 ≡ l.t
unfolding hash_h error_positions sample_error
error_weight level m =
    let l = level_of level in
    let bounds = sizes level in
    split-weight l.r (error_positions l m)
    ∙ sample-weight (2 * l.r) l.t (numbers 4 l.t (shake256 m (4 * l.t))) (omega arith)
    (words_below l.t (shake256 m (4 * l.t)) (shake256_below m (4 * l.t)))

-- "len 2r": every position is below it
pub error_below : (level : ℕ) (m : List ℕ) (p : ℕ) → listed p (error_positions (level_of level) m) ≡ true → p < 2 * (level_of level).r
unfolding error_positions sample_error
error_below level m =
    let l = level_of level in
    let bounds = sizes level in
    sample_below_lem (2 * l.r) l.t (numbers 4 l.t (shake256 m (4 * l.t))) (omega arith) (words_below l.t (shake256 m (4 * l.t)) (shake256_below m (4 * l.t)))

-- the positions from r on are the exponents of e1
pub error_upper : (level : ℕ) (m : List ℕ) →
    let l = level_of level in
    terms l.r (upper l.r (error_positions l m)) ≡ (hash_h l m).half1
unfolding hash_h split error_positions sample_error
error_upper level m =
    let l = level_of level in
    let bounds = sizes level in
    let words = numbers 4 l.t (shake256 m (4 * l.t)) in
    let small = words_below l.t (shake256 m (4 * l.t)) (shake256_below m (4 * l.t)) in
    upper-terms l.r (error_positions l m) (sample_distinct (2 * l.r) l.t words (omega arith) small)
    (λ p listed. let below = error_below level m p listed in omega arith)
