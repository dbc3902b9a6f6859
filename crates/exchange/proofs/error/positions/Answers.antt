-- `positions` samples the front of its list from the message's stream.
use mathlib.Core.Path.{◌≡◌, sym, ◌∙◌}
use Prim.Native.Nat.{ℕ, ◌*◌, ◌≤◌}
use native.Mathlib.Omega.{arith}
use lib.ListN.{length, take, replicate}
use lib.Seq.{length-take-le, take_at}
use Rattle.exchange.specs.Sampler.{sample_error}
use Rattle.exchange.specs.Scheme.{error_positions, error_replaced}
use Rattle.ring.proofs.Levels.{sizes}
use Rattle.ring.specs.inner.Sizes.{most_t}
use Rattle.exchange.proofs.Parts.{blank_long, blank_front}
use Rattle.exchange.proofs.error.positions.Goals as goal
use Rattle.exchange.proofs.error.positions.Goals.{After-stream-words}

-- the level's words and positions fit
words : (c : After-stream-words) → 4 * c.error_weight-t.result ≤ length c.stream-words.result
words c = omega (arith, sizes c.args.level)

words_cut : (c : After-stream-words) →
    let n = 4 * c.error_weight-t.result in
    length (take n c.stream-words.result) ≡ n
words_cut c = length-take-le _ _ (words c)

room_cut : (c : After-stream-words) →
    let n = c.error_weight-t.result in
    length (take n (replicate {A = ℕ} most_t 0)) ≡ n
room_cut c = blank_front _ most_t (omega (arith, sizes c.args.level))

pub sample-replaced-requires : goal.sample-replaced-requires
sample-replaced-requires c =
    rw (words_cut (goal.at.sample-replaced-requires c).After-stream-words, room_cut (goal.at.sample-replaced-requires c).After-stream-words) (omega (arith, sizes c.args.level))

pub returns : goal.returns
unfolding error_positions error_replaced sample_error
returns c =
    let sample = c.sample-replaced in
    let t = c.error_weight-t.ensures in
    let stream = rw (← t) at c.stream-words.ensures in
    let is = rw (room_cut (goal.at.returns c).After-stream-words, c.block.ensures, stream) at sample.ensures in
    rw (← t) (take_at _ _ _ (sample.auto.list ∙ room_cut (goal.at.returns c).After-stream-words) ∙ is.0, is.1)

pub overflow_mul-n : goal.overflow_mul-n
overflow_mul-n c = omega (arith, sizes c.args.level)

pub overflow_cast-len : goal.overflow_cast-len
overflow_cast-len c = omega (arith, sizes c.args.level)

pub overflow_mul-len : goal.overflow_mul-len
overflow_mul-len c = omega (arith, sizes c.args.level)

pub slice_bounds-words-end : goal.slice_bounds-words-end
slice_bounds-words-end c = words (goal.at.slice_bounds-words-end c).After-stream-words

pub slice_bounds-sample-end : goal.slice_bounds-sample-end
slice_bounds-sample-end c = sym (words_cut (goal.at.slice_bounds-sample-end c).After-stream-words)

pub slice_bounds-list-end : goal.slice_bounds-list-end
slice_bounds-list-end c = omega (arith, sizes c.args.level, blank_long most_t)

pub slice_bounds-sample-end-2 : goal.slice_bounds-sample-end-2
slice_bounds-sample-end-2 c = sym (room_cut (goal.at.slice_bounds-sample-end-2 c).After-stream-words)
