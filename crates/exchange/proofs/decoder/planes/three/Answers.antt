-- `three`: a full adder at each place.
use lib.Bits.{bit_and, bit_xor}
use Rattle.hashing.specs.Lists.{bit_at}
use Rattle.hashing.proofs.Words.{bit-and, bit-or, bit-xor}
use Rattle.exchange.proofs.decoder.planes.Laws.{full}
use Rattle.exchange.proofs.decoder.planes.three.Goals as goal

pub returns : goal.returns
returns c = λ e.
    let x = c.args.x in
    let y = c.args.y in
    let z = c.args.z in
    rw (bit-xor (bit_xor x y) z e, bit-xor x y e, bit-or (bit_and x y) (bit_and (bit_xor x y) z) e, bit-and x y e, bit-and (bit_xor x y) z e, bit-xor x y e)
    (full (bit_at x e) (bit_at y e) (bit_at z e))
