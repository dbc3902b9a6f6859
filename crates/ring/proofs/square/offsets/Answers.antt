-- `offsets`: e of them are in place, and `at` is the next.
use mathlib.Core.Path.{◌≡◌, refl, sym, ap, ap₂, ◌∙◌}
use mathlib.Core.List.{List}
use Prim.Native.Nat.{ℕ, ◌+◌, ◌*◌, ◌%◌, ◌<◌}
use native.Mathlib.Nat.{mod-lt, mod-eq_of_lt, mul-zero, mul-one, zero-mod}
use native.Mathlib.Omega.{arith}
use lib.ListN.{set, replicate, length-set}
use Rattle.hashing.proofs.Lists.{filled_none, filled_more}
use Rattle.ring.proofs.square.Laws.{circle_on}
use Rattle.ring.proofs.square.offsets.Goals as goal

pub loop-e-preserved : goal.loop-e-preserved
loop-e-preserved c =
    let was = c.loop-e in
    let args = c.args in
    let next : c.moved-at.result ≡ (args.n * (was.e + 1)) % args.r =
    c.moved-at.ensures ∙ rw was.invariant.3 (step args.r args.n was.e (omega arith)) in (
      omega arith,
      length-set was.o was.e was.at ∙ was.invariant.1,
      rw next (mod-lt (args.n * (was.e + 1)) (omega arith)),
      next,
      ap₂ (λ (o : List ℕ) (x : ℕ). set o was.e x) was.invariant.4 was.invariant.3
          ∙ filled_more was.e (λ j. (args.n * j) % args.r) (replicate 64 0) 0 (omega arith),
    )
  where
    step : (r n e : ℕ) → n < r → ((n * e) % r + n) % r ≡ (n * (e + 1)) % r
    step r n e low = ap (λ (p : ℕ). ((n * e) % r + p) % r) (rw (mul-one n) (sym (mod-eq_of_lt low))) ∙ circle_on r n e 1

pub loop-e-init : goal.loop-e-init
loop-e-init c = (omega arith, refl, omega arith, rw (mul-zero, zero-mod) refl, filled_none (λ j. (c.args.n * j) % c.args.r) (replicate 64 0))
