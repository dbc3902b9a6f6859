-- `power` climbs the chain: with n digits of u still to read, what is to come ends where the whole chain ends.
use mathlib.Core.Path.{◌≡◌, sym, ap, ◌∙◌}
use Prim.Native.Nat.{ℕ, ◌+◌, ◌-◌}
use native.Mathlib.Omega.{arith}
use Rattle.hashing.specs.Lists.{bit_at, bits}
use Rattle.ring.specs.Polynomials.{spread}
use Rattle.ring.specs.Chain.{Rung, climb, digits, climbed, chain, chain_products}
use Rattle.ring.proofs.Chains.{top_one}
use Rattle.ring.proofs.invert.Laws.{next_rung, rung_price, rung_in}
use Rattle.ring.proofs.invert.power.Goals as goal

pub loop-n-init : goal.loop-n-init
loop-n-init c =
    let u : ℕ = c.args.r - 2 in
    (c.requires.fact_2, c.requires.fact_3, rw (c.top-n.ensures.1, top_one u (omega arith)), omega arith)

pub loop-n-preserved : goal.loop-n-preserved
unfolding bit_at
loop-n-preserved c =
    let made = c.climb-next.ensures in
    let was = c.loop-n in
    let given = c.args in
    let n : ℕ = was.n - 1 in
    let one_less : was.n ≡ n + 1 = omega arith in (
      rw made.fact_1 (rung_in given.r (omega arith) (bits 64 given.a) _ _),
      (λ few. absurd (omega (arith, few))),
      rw (made.fact_1, made.fact_2)
          (sym (next_rung given.r (bits 64 given.a) (given.r - 2) n (bits 64 was.x) was.count) ∙ (rw one_less at was.invariant.2)),
      rw made.fact_2 (rung_price given.r (bits 64 given.a) _ _ n 128 (rw one_less at was.invariant.3)),
    )

pub returns : goal.returns
unfolding chain chain_products climbed climb digits
returns c =
    let was = c.loop-n in
    let end : was.n ≡ 0 = omega arith in
    let at-end = rw end at was.invariant.2 in
    record {
      fact_1 = c.once.ensures ∙ ap (λ (e : Rung). spread c.args.r 2 e.value) at-end;
      fact_2 = ap (λ (e : Rung). e.products) at-end;
    }
