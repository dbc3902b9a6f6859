-- `repeated` squares k times: before turn j the first square's exponents are multiplied by 2^(j - 1).
use mathlib.Core.Path.{◌≡◌, sym, ap, ◌∙◌}
use Prim.Native.Nat.{ℕ, ◌+◌, ◌-◌, ◌^◌}
use native.Mathlib.Omega.{arith}
use lib.Pow.{pow-add}
use Rattle.hashing.specs.Lists.{bits}
use Rattle.ring.specs.Polynomials.{InRing, spread}
use Rattle.ring.proofs.Powers.{spread_in, spread-one, spread-spread}
use Rattle.ring.proofs.square.repeated.Goals as goal

pub loop-j-init : goal.loop-j-init
loop-j-init c =
    let r = c.args.r in
    let inside : InRing r (bits 64 c.once-y.result) = rw c.once-y.ensures (spread_in r (omega arith) 2 (bits 64 c.args.x)) in
    (omega arith, omega arith, sym (spread-one r (omega arith) inside))

pub loop-j-preserved : goal.loop-j-preserved
loop-j-preserved c =
    let was = c.loop-j in
    let r = c.args.r in
    let first = bits 64 c.once-y.result in
    let more : 1 + (was.j - 1) ≡ was.j + 1 - 1 = omega arith in (
      omega arith,
      omega arith,
      c.once-next.ensures ∙ ap (spread r 2) was.invariant.2 ∙ spread-spread r (omega arith) 2 (2 ^ (was.j - 1)) first
          ∙ ap (λ (m : ℕ). spread r m first) (sym (pow-add 2 1 (was.j - 1)) ∙ ap (λ (n : ℕ). 2 ^ n) more),
    )

pub returns : goal.returns
returns c =
    let was = c.loop-j in
    let given = c.args in
    let r = given.r in
    let all : was.j - 1 + 1 ≡ given.k = omega arith in
    was.invariant.2 ∙ ap (spread r (2 ^ (was.j - 1))) c.once-y.ensures ∙ spread-spread r (omega arith) (2 ^ (was.j - 1)) 2 _
    ∙ ap (λ (m : ℕ). spread r m (bits 64 given.x)) (sym (pow-add 2 (was.j - 1) 1) ∙ ap (λ (n : ℕ). 2 ^ n) all)
