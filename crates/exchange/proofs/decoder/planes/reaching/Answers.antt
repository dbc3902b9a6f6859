-- `reaching`: the planes are compared with the bound's digits, and cut at r.
use mathlib.Core.Path.{◌≡◌, ◌∙◌, fun_ext}
use mathlib.Core.Bool.{Bool, not, ◌&&◌, ◌||◌}
use mathlib.Core.List.{List}
use Prim.Native.Nat.{ℕ, ◌/◌, ◌%◌, ◌≤◌, ◌<◌}
use native.Mathlib.Decide.{dec_lt}
use native.Mathlib.Omega.{arith}
use borrow.Author.Tests.{lt-ltb, le-ltb}
use lib.Dec.{ltb, leb}
use lib.ListN.{get_or}
use Rattle.hashing.specs.Lists.{bit_at, bits}
use Rattle.ring.specs.Bytes.{number}
use Rattle.ring.specs.inner.Sizes.{most_d}
use Rattle.exchange.specs.inner.Planes.{planes, column, number_at, counter_at, reaches_at}
use Rattle.exchange.proofs.decoder.planes.Laws.{reaches_ext, reaches_leb, capped}
use Rattle.exchange.proofs.decoder.planes.reaching.Goals as goal

-- the masks of a bound compare a counter with it
compares : (bound : ℕ) (clear p : List ℕ) (j : ℕ) → bound < 256
    → ((k e : ℕ) → k < planes → e < 64 → bit_at (get_or clear k 0) e ≡ not (bit_at bound k || bit_at bound planes)) → counter_at p j ≤ most_d
    → reaches_at clear (column p (j / 64)) (j % 64) ≡ leb bound (counter_at p j)
unfolding reaches_at counter_at number_at
compares bound clear p j byte masks few =
    let digits : ℕ → Bool = λ k. bit_at (get_or (column p (j / 64)) k 0) (j % 64) in
    reaches_ext planes (λ k. bit_at (get_or clear k 0) (j % 64)) (λ k. not (bit_at bound k || bit_at bound planes)) digits (λ k h. masks k (j % 64) h (omega arith))
    ∙ reaches_leb planes (λ k. bit_at bound k || bit_at bound planes) digits
    ∙ capped planes bound (number planes digits) (omega (arith, byte)) (omega arith)

pub returns : goal.returns
returns c = fun_ext (λ j. go j (dec_lt j c.args.r))
  where
    go : (j : ℕ) → Dec (j < c.args.r) → bits 64 c.cut.result j ≡ ltb j c.args.r && leb c.args.bound (counter_at c.args.p.now j)
    go j (yes below) =
        rw (lt-ltb j c.args.r below)
        (c.cut.ensures.fact_2 j below ∙ c.compared.ensures.fact_2 j (omega arith)
        ∙ compares c.args.bound c.masks.result c.args.p.now j c.requires.1 c.masks.ensures (c.requires.2 j below))
    go j (no above) = let past : c.args.r ≤ j = omega arith in rw (le-ltb j c.args.r past) (c.cut.ensures.fact_1 j past)
