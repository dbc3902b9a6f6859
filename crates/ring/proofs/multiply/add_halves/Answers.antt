-- `multiply::add_halves` meets its contract. Assumes nothing.
use Rattle.ring.proofs.multiply.Parts.{halves_added}
use Rattle.ring.proofs.multiply.add_halves.Goals as goal

pub returns : goal.returns
returns c =
    let second = c.add-2 in
    let first = c.add in
    halves_added c.args.h c.args.a.now c.args.s.now first.new.c second.new.c first.ensures second.ensures
