-- `permuted` fills its words from the lowest: before turn i the bits below 64 i are in place, and `base` is where bit 64 i comes from.
use mathlib.Core.Path.{◌≡◌, refl, ap, ◌∙◌}
use mathlib.Core.Bool.{Bool, false}
use mathlib.Core.List.{List}
use Prim.Native.Nat.{ℕ, ◌+◌, ◌*◌, ◌/◌, ◌%◌, ◌<◌}
use native.Mathlib.Nat.{mod-lt, mul_comm, mul-zero, zero-mod, not-suc-le-zero}
use native.Mathlib.Omega.{arith}
use lib.ListN.{length, get_or, length-set}
use Rattle.hashing.specs.Lists.{tab, bits}
use Rattle.hashing.proofs.Lists.{length-tab, get_or-tab}
use Rattle.ring.specs.inner.Sizes.{words}
use Rattle.ring.proofs.Packed.{bits-zeros, fill_below, fill_above}
use Rattle.ring.proofs.square.Laws.{bit_small, circle_on}
use Rattle.ring.proofs.square.permuted.Goals as goal

-- offset e of the list
offset : (r n : ℕ) {o : List ℕ} → o ≡ tab 64 (λ e. (n * e) % r) → (e : ℕ) → e < 64 → get_or o e 0 ≡ (n * e) % r
offset r n all e below = ap (λ (l : List ℕ). get_or l e 0) all ∙ get_or-tab 64 (λ e. (n * e) % r) 0 e below

pub loop-i-init : goal.loop-i-init
loop-i-init c = (
  omega arith,
  omega arith,
  rw (mul-zero c.args.n, zero-mod) refl,
  omega arith,
  λ k past. ap (λ (p : ℕ → Bool). p k) (ap (bits 64) c.filled-y.ensures ∙ bits-zeros words),
  λ a held k below. absurd (not-suc-le-zero below),
)

pub gather-requires : goal.gather-requires
gather-requires c =
    let held = c.unpacked-d.ensures in
    let all = c.offsets-o.ensures in
    let r = c.args.r in
    let n = c.args.n in record {
      fact_1 = omega (arith, ap (λ (l : List ℕ). length l) all, length-tab 64 (λ e. (n * e) % r));
      fact_2 = (
        (λ k below. rw (held k below) (bit_small (bits 64 c.args.x (k % r)))),
        λ e below. rw (offset r n all e below) (mod-lt (n * e) (omega arith)),
      );
    }

pub loop-i-preserved : goal.loop-i-preserved
loop-i-preserved c =
    let was = c.loop-i in
    let given = c.args in
    let all = c.offsets-o.ensures in
    let r = given.r in
    let n = given.n in
    let w = c.gather.result in
    let next : 64 * was.i + 64 ≡ 64 * (was.i + 1) = omega arith in
    let on : c.moved-base.result ≡ (n * (64 * (was.i + 1))) % r =
    c.moved-base.ensures ∙ rw (was.invariant.2, mul_comm 64 n, ← next) (circle_on r n (64 * was.i) 64) in (
      omega arith,
      length-set was.y was.i w ∙ was.invariant.1,
      on,
      rw c.moved-base.ensures (mod-lt (was.base + (64 * n) % r) (omega arith)),
      fill_above was.y was.i w (λ k. false) was.invariant.4,
      λ a held. fill_below was.y was.i w (λ k. a ((n * k) % r)) (omega arith) (was.invariant.5 a held) (λ e below.
          c.gather.ensures a held e below
          ∙ ap a (rw (was.invariant.2, offset r n all e below) (circle_on r n (64 * was.i) e))),
    )

pub returns : goal.returns
returns c =
    let was = c.loop-i in
    let all : was.i ≡ c.args.r / 64 + 1 = omega arith in
    record {
      fact_1 = rw (← all) was.invariant.4;
      fact_2 = rw (← all) (was.invariant.5 (bits 64 c.args.x) c.unpacked-d.ensures);
    }
