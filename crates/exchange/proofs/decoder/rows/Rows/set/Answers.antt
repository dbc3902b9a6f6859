-- `set`: bit k of the window at bit b is bit b + k of x twice in a row.
use Rattle.hashing.specs.Lists.{bits}
use Rattle.exchange.proofs.decoder.rows.Laws.{held, still_empty}
use Rattle.exchange.proofs.decoder.rows.Rows.set.Goals as goal

pub returns : goal.returns
returns c =
    held c.args.r (bits 64 c.args.x) c.twice.new.f c.copies.new.f c.args.self.now.bytes c.requires.fact_1.0 c.requires.fact_1.1 c.twice.ensures c.copies.ensures.fact_1 c.copies.ensures.fact_2

pub invariant_of-self : goal.invariant_of-self
invariant_of-self c =
    record {
      empty = still_empty c.args.r (bits 64 c.args.x) c.twice.new.f c.copies.new.f c.args.self.now.bytes c.requires.fact_1.0 c.requires.fact_1.1 c.twice.ensures c.copies.ensures.fact_1 c.copies.ensures.fact_2 c.args.self.now.empty;
    }
