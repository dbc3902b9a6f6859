-- `compared`: i words are done.
use mathlib.Core.Path.{◌≡◌}
use native.Mathlib.Omega.{arith}
use Rattle.ring.proofs.words.Laws.{done_none, done_below, done_above}
use Rattle.exchange.proofs.decoder.planes.compared.Goals as goal
use Rattle.exchange.proofs.decoder.planes.compared.Invariants.{marked}

pub returns : goal.returns
returns c =
    let l = c.loop-i in
    let given = c.args in
    let all : l.i ≡ given.n = omega arith in
    let done = rw all at l.invariant.1 in
    let what = marked given.p.now given.clear in
    record { fact_1 = done_above what given.n l.x done; fact_2 = done_below what given.n l.x done }

pub loop-i-init : goal.loop-i-init
loop-i-init c = (omega arith, done_none (marked c.args.p.now c.args.clear) c.filled-x.result c.filled-x.ensures)
