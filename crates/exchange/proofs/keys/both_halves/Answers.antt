-- `both_halves` draws h1 from the words after those that h0 used.
use mathlib.Core.Path.{◌≡◌, sym, ap, ap₂, ◌∙◌}
use mathlib.Core.Bool.{◌||◌}
use mathlib.Core.List.{List}
use Prim.Native.Nat.{ℕ, ◌+◌, ◌-◌, ◌≤◌}
use native.Mathlib.Nat.{le_of_eq}
use native.Mathlib.Omega.{arith}
use lib.ListN.{length, take, drop, length-drop}
use lib.Seq.{length-take-le}
use Rattle.ring.specs.Bytes.{numbers}
use Rattle.ring.specs.Levels.{level_of}
use Rattle.ring.proofs.little_endian.Laws.{numbers-length}
use Rattle.exchange.specs.Fair.{most_words}
use Rattle.exchange.specs.Scheme.{key_words, key_stream, h0_drawn, h1_drawn, h0_of, h1_of, key_ran_out}
use Rattle.exchange.proofs.fair.Laws.{fair_used}
use Rattle.exchange.proofs.keys.both_halves.Goals as goal
use Rattle.exchange.proofs.keys.both_halves.Goals.{After-polynomial-first, After-words_of-words}

-- the words are the seed's
words : (c : After-words_of-words) → c.words_of-words.result ≡ key_stream c.args.seed.now
unfolding key_stream
words c = c.words_of-words.ensures ∙ ap (numbers 4 key_words) c.stream-bytes.ensures

long : (list bytes : List ℕ) → list ≡ numbers 4 key_words bytes → length list ≡ key_words
long list bytes is = ap length is ∙ numbers-length 4 key_words bytes

-- h0 uses no more than its share
share : (c : After-polynomial-first) → c.polynomial-first.result.counts.used ≤ most_words
share c =
    let given = c.args in
    omega (arith, c.polynomial-first.ensures.2, fair_used (level_of given.level) (take most_words c.words_of-words.result), length-take-le most_words c.words_of-words.result (omega (arith, long _ _ c.words_of-words.ensures)))

-- and the words after them are lent to h1
after : (used : ℕ) (list : List ℕ) → take (used + most_words - used) (drop used list) ≡ take most_words (drop used list)
after used list = let same : used + most_words - used ≡ most_words = omega arith in rw same

pub polynomial-second-requires : goal.polynomial-second-requires
polynomial-second-requires c =
    let used = c.polynomial-first.result.counts.used in
    let list = c.words_of-words.result in
    let room : most_words ≤ length (drop used list) = omega (arith, length-drop used list, long _ _ c.words_of-words.ensures, share (goal.at.polynomial-second-requires c).After-polynomial-first) in
    rw (after used list) (le_of_eq (length-take-le most_words (drop used list) room))

pub returns : goal.returns
unfolding h0_of h1_of key_ran_out h0_drawn h1_drawn
returns c =
    let first = rw (words (goal.at.returns c).After-words_of-words) at c.polynomial-first.ensures in
    let second = rw (after c.polynomial-first.result.counts.used c.words_of-words.result, words (goal.at.returns c).After-words_of-words, first.2) at c.polynomial-second.ensures in
    (first.0, second.0, ap₂ ◌||◌ first.1 second.1, rw (first.2, first.3, second.2, second.3))

pub slice_bounds-polynomial-end : goal.slice_bounds-polynomial-end
slice_bounds-polynomial-end c = sym (length-take-le most_words c.words_of-words.result (omega (arith, long _ _ c.words_of-words.ensures)))

pub polynomial-first-requires : goal.polynomial-first-requires
polynomial-first-requires c = le_of_eq (length-take-le most_words c.words_of-words.result (omega (arith, long _ _ c.words_of-words.ensures)))

pub slice_bounds-polynomial-end-2 : goal.slice_bounds-polynomial-end-2
slice_bounds-polynomial-end-2 c = omega (arith, share (goal.at.slice_bounds-polynomial-end-2 c).After-polynomial-first, long _ _ c.words_of-words.ensures)
