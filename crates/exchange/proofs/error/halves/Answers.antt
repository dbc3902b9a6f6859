-- `halves` sets the bits of all positions and splits them.
use mathlib.Core.Path.{◌≡◌, sym, ap, ◌∙◌}
use Prim.Native.Nat.{ℕ}
use native.Mathlib.Omega.{arith}
use lib.ListN.{length, replicate, length-replicate}
use Rattle.ring.specs.inner.Sizes.{wide_words}
use Rattle.ring.proofs.Levels.{r_odd, r_small, sizes}
use Rattle.exchange.specs.Scheme.{split}
use Rattle.exchange.proofs.error.halves.Goals as goal

pub place-requires : goal.place-requires
place-requires c =
    let zeros = c.filled-all.ensures in
    let long : length c.filled-all.result ≡ wide_words = ap length zeros ∙ length-replicate {A = ℕ} wide_words 0 in
    record {
      fact_1 = zeros ∙ ap (λ (n : ℕ). replicate n 0) (sym long);
      fact_2 = λ p listed. let below = c.requires p listed in omega (arith, long, sizes c.args.level);
    }

pub split-requires : goal.split-requires
split-requires c =
    let level = c.args.level in rw c.block.ensures (r_odd level, r_small level)

pub returns : goal.returns
unfolding split
returns c =
    let placed = c.place.ensures in
    rw (c.block.ensures, placed) at c.split.ensures
