-- `words::padded` meets its contract. Assumes nothing.
use mathlib.Core.Path.{ap, ◌∙◌, fun_ext}
use mathlib.Core.List.{List}
use lib.ListN.{get_or}
use Rattle.hashing.specs.Lists.{bits}
use Rattle.hashing.proofs.Words.{zero_at}
use Rattle.ring.proofs.Shifts.{shifted_zero}
use Rattle.ring.proofs.words.Laws.{placed}
use Rattle.ring.proofs.words.padded.Goals as goal

pub returns : goal.returns
returns g c =
    let p = c.place in
    let blank = c.filled-p in
    let b = c.args.b.now in
    fun_ext (placed 0 blank.result b p.new.t (λ i. ap (λ (l : List _). get_or l i 0) blank.ensures ∙ zero_at _ i) p.ensures.outside p.ensures.by_index)
    ∙ shifted_zero (bits 64 b)
