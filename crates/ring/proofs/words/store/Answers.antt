-- `words::store` meets its contract: after the whole words i bytes are written. Assumes nothing.
use mathlib.Core.Path.{◌≡◌, refl, ap₂, ◌∙◌}
use mathlib.Core.List.{List}
use Prim.Native.Nat.{ℕ, ◌+◌, ◌*◌}
use native.Mathlib.Omega.{arith}
use lib.ListN.{length, set, length-set}
use Rattle.hashing.specs.Lists.{bits}
use Rattle.hashing.proofs.Lists.{filled_more, filled_again, filled_all}
use Rattle.ring.specs.Bytes.{number, list_of}
use Rattle.ring.proofs.words.Laws.{byte_at}
use Rattle.ring.proofs.words.store.Goals as goal

pub loop-i-preserved : goal.loop-i-preserved
loop-i-preserved c =
    let l = c.loop-i in
    let a = c.args in
    let words = c.store_words.new.out in
    let v = c.byte_of.result in (
      omega arith,
      length-set l.out l.i v ∙ l.invariant.1,
      ap₂ (λ (out : List ℕ) (y : ℕ). set out l.i y) l.invariant.2 (c.byte_of.ensures ∙ byte_at a.a l.i)
          ∙ filled_more l.i (λ i. number 8 (λ e. bits 64 a.a (i * 8 + e))) words 0 (omega arith),
    )

pub loop-i-init : goal.loop-i-init
unfolding list_of
loop-i-init c =
    let words = c.store_words in
    let given = c.args in
    (omega arith, refl, filled_again _ (λ i. number 8 (λ e. bits 64 given.a (i * 8 + e))) _ _ (rw (← words.auto.out) at words.ensures))

pub returns : goal.returns
unfolding list_of
returns c =
    let l = c.loop-i in
    let a = c.args in
    let words = c.store_words in
    let all : l.i ≡ length a.out.now = omega (arith, words.auto.out) in
    l.invariant.2 ∙ rw all (filled_all (length a.out.now) (λ i. number 8 (λ e. bits 64 a.a (i * 8 + e))) words.new.out words.auto.out)
