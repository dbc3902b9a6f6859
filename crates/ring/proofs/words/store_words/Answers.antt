-- `words::store_words` meets its contract: i words are written. Assumes nothing.
use mathlib.Core.Path.{◌≡◌, refl, ap, ap₂, ◌∙◌}
use mathlib.Core.List.{◌++◌}
use Prim.Native.Nat.{ℕ, ◌+◌, ◌*◌, ◌/◌, ◌%◌, ◌^◌, ◌<◌}
use native.Mathlib.Omega.{arith}
use lib.ListN.{length, get_or, drop}
use Rattle.hashing.specs.Lists.{tab}
use Rattle.hashing.specs.inner.Parts.{overwritten}
use Rattle.hashing.proofs.Lists.{tab_ext, filled_none}
use Rattle.hashing.proofs.lanes.Laws.{filled_part}
use Rattle.ring.specs.Bytes.{list_of}
use Rattle.ring.proofs.words.Laws.{byte_at}
use Rattle.ring.proofs.words.store_words.Goals as goal
use Rattle.ring.proofs.words.store_words.Invariants.{byte}

pub loop-i-preserved : goal.loop-i-preserved
loop-i-preserved c =
    let was = c.loop-i in
    let given = c.args in
    let a = given.a.now in
    let next : 8 * was.i + 8 ≡ 8 * (was.i + 1) = omega arith in
    let word : (m : ℕ) → m < 8 → get_or a was.i 0 / 2 ^ (8 * m) % 256 ≡ byte a (8 * was.i + m) = λ m h.
    let at : (8 * was.i + m) / 8 ≡ was.i = omega arith in
    let place : (8 * was.i + m) % 8 ≡ m = omega arith in
    rw (at, place) at (byte_at a (8 * was.i + m)) in (
      omega arith,
      c.lay_eight.auto.out ∙ was.invariant.1,
      c.lay_eight.ensures
          ∙ ap₂ (overwritten (8 * was.i)) (tab_ext 8 _ (λ m. byte a (8 * was.i + m)) word) was.invariant.2
          ∙ filled_part (8 * was.i) 8 (byte a) given.out.now (omega arith)
          ∙ ap (λ (k : ℕ). tab k (byte a) ++ drop k given.out.now) next,
    )

pub returns : goal.returns
unfolding list_of
returns c =
    let was = c.loop-i in
    let all : was.i ≡ length c.args.out.now / 8 = omega arith in
    rw (← all) was.invariant.2

pub loop-i-init : goal.loop-i-init
loop-i-init c = (omega arith, refl, filled_none (byte c.args.a.now) c.args.out.now)
