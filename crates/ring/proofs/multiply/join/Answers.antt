-- `multiply::join` meets its contract. Assumes nothing.
use Rattle.ring.proofs.multiply.Parts.{joined}
use Rattle.ring.proofs.multiply.join.Goals as goal

pub returns : goal.returns
returns c =
    let last = c.add in
    let sums = c.add_halves in
    joined c.args.h c.args.c.now c.args.m.now sums.new.s last.new.c c.requires.0 c.requires.1 sums.auto.s
    sums.ensures last.ensures
