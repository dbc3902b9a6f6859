-- `added`: seven full adders, and the last carry goes on.
use mathlib.Core.Path.{◌≡◌, ◌∙◌}
use Prim.Native.Nat.{◌+◌, ◌*◌, ◌^◌}
use native.Mathlib.Omega.{arith}
use lib.ListN.{length, set}
use Rattle.hashing.specs.Lists.{bit_at}
use Rattle.ring.specs.Polynomials.{bit}
use Rattle.exchange.specs.inner.Counting.{total}
use Rattle.exchange.specs.inner.Planes.{planes, number_at, ones_at}
use Rattle.exchange.proofs.decoder.planes.Laws.{set_three}
use Rattle.exchange.proofs.decoder.planes.added.Goals as goal

pub returns : goal.returns
unfolding ones_at total
returns c = λ e room.
    let one = c.three-a in
    let two = c.three-b in
    let three = c.three-c in
    let four = c.three-d in
    let five = c.three-e in
    let six = c.three-f in
    let seven = c.three-g in
    let p = c.args.p in
    let long : length p ≡ planes = omega (arith, c.well_formed) in
    let sum : number_at (set (set (set p 0 four.result.low) 1 six.result.low) 2 seven.result.low) e + bit (bit_at seven.result.carry e) * 2 ^ 3
    ≡ number_at p e + ones_at c.args.x e =
    omega (arith, one.ensures e, two.ensures e, three.ensures e, four.ensures e, five.ensures e, six.ensures e, seven.ensures e, set_three p four.result.low six.result.low seven.result.low e long) in
    c.carried.ensures e (rw sum room) ∙ sum
