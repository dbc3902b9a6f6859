-- `halved` goes by k's binary digits from the lowest: h has the inverse of 2^low, p that of 2^value, and value·j + low is k.
use mathlib.Core.Path.{◌≡◌, ap, ◌∙◌}
use Prim.Native.Nat.{ℕ, ◌+◌, ◌*◌, ◌/◌, ◌%◌, ◌<◌}
use native.Mathlib.Nat.{mod-eq_of_lt, mod-lt, add-mul, mul-add, mul-one, mul-zero}
use native.Mathlib.Omega.{arith}
use Rattle.ring.proofs.square.Laws.{halves_times, half_unit}
use Rattle.ring.proofs.square.halved.Goals as goal
use Rattle.ring.proofs.square.halved.Invariants.{Halves}
use Rattle.ring.proofs.square.halved.Goals.{Joined-j-eq1, then-j-eq1, else-j-eq1}

-- the lowest digit, and the others
digit : (s j : ℕ) → s * j ≡ (s + s) * (j / 2) + s * (j % 2)
digit s j =
    let whole : j ≡ j / 2 + j / 2 + j % 2 = omega arith in
    ap (λ (n : ℕ). s * n) whole
    ∙ omega (arith, mul-add s (j / 2 + j / 2) (j % 2), mul-add s (j / 2) (j / 2), add-mul s s (j / 2))

both : {r i s h p n : ℕ} → 1 < r → n ≡ (h * p) % r → Halves r i h → Halves r s p → Halves r (i + s) n
both {r} {i} {s} {h} {p} more is first second =
    rw is (record { below = mod-lt (h * p) (omega arith); inverts = halves_times r i s h p first.inverts second.inverts })

-- the digit's own power is taken in, or it is 0
record Taken (r k h value j : ℕ) : Type 0 where
  low : ℕ
  all : (value + value) * (j / 2) + low ≡ k
  first : Halves r low h

joined : (c : Joined-j-eq1) →
    let given = c.args in
    let was = c.loop-j in
    Taken given.r given.k c.if-j-eq1.h was.invariant.value was.j
joined c =
    let given = c.args in
    let was = c.loop-j in
    let so = was.invariant in
    let split = digit so.value was.j in
    elim c.if-j-eq1.branch [
      | then-j-eq1 w ↦
          let one : was.j % 2 ≡ 1 = w.if-j-eq1.true in
          let odd = ap (λ (n : ℕ). so.value * n) one ∙ mul-one so.value in
          record {
            low = so.low + so.value;
            all = omega (arith, so.all, split, odd);
            first = both (omega arith) (w.h-is ∙ w.times-h.ensures) so.first so.second;
          }
      | else-j-eq1 w ↦
          let none : was.j % 2 ≡ 0 = omega arith in
          let even = ap (λ (n : ℕ). so.value * n) none ∙ mul-zero so.value in
          record { low = so.low; all = omega (arith, so.all, split, even); first = rw w.h-is so.first }
    ]

pub loop-j-preserved : goal.loop-j-preserved
loop-j-preserved c =
    let so = c.loop-j.invariant in
    let taken = joined (goal.at.loop-j-preserved c).Joined-j-eq1 in
    record {
      low = taken.low;
      value = so.value + so.value;
      all = taken.all;
      first = taken.first;
      second = both (omega arith) c.times-p.ensures so.second so.second;
    }

-- half of r + 1 is half of 1
pub loop-j-init : goal.loop-j-init
loop-j-init c =
    record {
      low = 0;
      value = 1;
      all = omega arith;
      first = record { below = omega arith; inverts = mod-eq_of_lt (omega arith) };
      second = record { below = omega arith; inverts = half_unit c.args.r (omega arith) (omega arith) };
    }
