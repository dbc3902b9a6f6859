-- `stored` fills the front of two arrays.
use mathlib.Core.Path.{◌≡◌, sym, ◌∙◌}
use Prim.Native.Nat.{ℕ}
use native.Mathlib.Omega.{arith}
use lib.ListN.{length, take, replicate}
use lib.Seq.{take_at}
use Rattle.ring.specs.Bytes.{bytes_of}
use Rattle.ring.specs.inner.Sizes.{word_bytes}
use Rattle.ring.proofs.Levels.{sizes}
use Rattle.exchange.proofs.Parts.{blank_long, blank_front}
use Rattle.exchange.proofs.error.stored.Goals as goal
use Rattle.exchange.proofs.error.stored.Goals.{After-polynomial-n}

-- the level's bytes fit
cut : (c : After-polynomial-n) → length (take c.polynomial-n.result (replicate {A = ℕ} word_bytes 0)) ≡ c.polynomial-n.result
cut c = blank_front _ word_bytes (omega (arith, sizes c.args.level))

pub returns : goal.returns
unfolding bytes_of
returns c =
    let cut = cut (goal.at.returns c).After-polynomial-n in
    rw (← c.polynomial-n.ensures) (
      take_at _ _ _ (c.store.auto.out ∙ cut) ∙ rw cut at c.store.ensures,
      take_at _ _ _ (c.store-2.auto.out ∙ cut) ∙ rw cut at c.store-2.ensures,
    )

pub slice_bounds-half0-end : goal.slice_bounds-half0-end
slice_bounds-half0-end c = omega (arith, sizes c.args.level, blank_long word_bytes)

pub slice_bounds-store-end : goal.slice_bounds-store-end
slice_bounds-store-end c = sym (cut (goal.at.slice_bounds-store-end c).After-polynomial-n)

pub slice_bounds-half1-end : goal.slice_bounds-half1-end
slice_bounds-half1-end c = omega (arith, sizes c.args.level, blank_long word_bytes)

pub slice_bounds-store-end-2 : goal.slice_bounds-store-end-2
slice_bounds-store-end-2 c = sym (cut (goal.at.slice_bounds-store-end-2 c).After-polynomial-n)
