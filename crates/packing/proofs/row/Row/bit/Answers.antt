-- `bit` finds the bit of number n div `to` at its place n mod `to`.
use mathlib.Core.Path.{sym, ap, ◌∙◌}
use native.Mathlib.Omega.{arith}
use Rattle.hashing.specs.Lists.{bits}
use Rattle.ring.specs.Polynomials.{bit}
use Rattle.ring.proofs.Binary.{bit-bit_at}
use Rattle.packing.proofs.Rows.{bit_past, bit_short, bit_there}
use Rattle.packing.proofs.row.Row.bit.Goals as goal
use Rattle.packing.proofs.row.Row.bit.Goals.{then-self-i-via-then-self-i, then-self-i-via-else-self-i+then-self-k}

pub returns-then-self-i : goal.returns-then-self-i
returns-then-self-i c =
    let row = c.args.self.now in
    elim c.then-self-i.branch [
      | then-self-i-via-then-self-i w ↦
          sym (ap bit (bit_past row.from row.count row.widths.0 row.to c.args.n row.bytes.now w.if-self-i.true))
      | then-self-i-via-else-self-i+then-self-k w ↦
          sym (ap bit (bit_short row.from row.count row.widths.0 row.to c.args.n row.bytes.now w.if-self-k.true))
    ]

pub returns : goal.returns
unfolding bits
returns c =
    let row = c.args.self.now in
    sym
    (ap bit (bit_there row.from row.count row.widths.0 row.to c.args.n row.bytes.now (omega arith) (omega arith))
    ∙ bit-bit_at _ _)
