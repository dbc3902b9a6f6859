-- `column_of`: the words of k planes are read.
use mathlib.Core.Path.{◌≡◌, refl, ap, ◌∙◌}
use mathlib.Core.List.{List}
use Prim.Native.Nat.{ℕ}
use native.Mathlib.Omega.{arith}
use lib.ListN.{set, replicate, length-set}
use Rattle.hashing.proofs.Lists.{filled_none, filled_more, filled_all}
use Rattle.exchange.specs.inner.Planes.{planes, column}
use Rattle.exchange.proofs.decoder.planes.column_of.Goals as goal
use Rattle.exchange.proofs.decoder.planes.column_of.Invariants.{entry}

pub loop-k-preserved : goal.loop-k-preserved
loop-k-preserved c =
    let l = c.loop-k in
    let given = c.args in
    let v = entry given.p.now given.i l.k in (
      omega arith,
      length-set l.q l.k v ∙ l.invariant.1,
      ap (λ (q : List ℕ). set q l.k v) l.invariant.2 ∙ filled_more l.k (entry given.p.now given.i) (replicate planes 0) 0 (omega arith),
    )

pub returns : goal.returns
unfolding column
returns c =
    let l = c.loop-k in
    let given = c.args in
    let all : l.k ≡ planes = omega arith in
    l.invariant.2 ∙ rw all (filled_all planes (entry given.p.now given.i) (replicate planes 0) refl)

pub loop-k-init : goal.loop-k-init
loop-k-init c = (omega arith, refl, filled_none (entry c.args.p.now c.args.i) (replicate planes 0))
