-- `words_of`: before turn i the first i words are read.
use mathlib.Core.Path.{◌≡◌, ◌∙◌}
use Prim.Native.Nat.{ℕ, ◌<◌}
use native.Mathlib.Omega.{arith}
use lib.ListN.{length, length-set, replicate}
use Rattle.hashing.proofs.Lists.{filled_none, filled_more, filled_all}
use Rattle.ring.specs.Bytes.{numbers}
use Rattle.exchange.specs.Scheme.{key_words}
use Rattle.exchange.proofs.Parts.{blank_long}
use Rattle.exchange.proofs.keys.words_of.Goals as goal
use Rattle.exchange.proofs.keys.words_of.Invariants.{word}

pub loop-i-preserved : goal.loop-i-preserved
unfolding word
loop-i-preserved c =
    let was = c.loop-i in
    let bytes = c.args.bytes.now in
    let room : was.i < length (replicate {A = ℕ} key_words 0) = omega (arith, blank_long key_words) in (
      omega arith,
      simp length-set was.invariant.1,
      rw (was.invariant.2, c.four.ensures) (filled_more was.i (word bytes) (replicate {A = ℕ} key_words 0) 0 room),
    )

pub returns : goal.returns
unfolding word numbers
returns c =
    let was = c.loop-i in
    let all : was.i ≡ key_words = omega arith in
    was.invariant.2 ∙ rw all (filled_all key_words (word c.args.bytes.now) (replicate {A = ℕ} key_words 0) (blank_long key_words))

pub loop-i-init : goal.loop-i-init
loop-i-init c = (omega arith, blank_long key_words, filled_none _ _)
