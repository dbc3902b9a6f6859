-- `multiply::comb` meets its contract: the windows from this one on are done, whatever the table is of. Assumes nothing.
use mathlib.Core.Path.{◌≡◌, refl, sym, ap, ◌∙◌}
use mathlib.Core.Bool.{Bool}
use Prim.Native.Nat.{ℕ, ◌+◌, ◌-◌, ◌*◌}
use native.Mathlib.Omega.{arith}
use Rattle.hashing.specs.Lists.{bits}
use Rattle.hashing.proofs.Words.{bits_none}
use Rattle.ring.specs.Polynomials.{flip, parity}
use Rattle.ring.specs.inner.Wide.{shifted}
use Rattle.ring.proofs.Shifts.{shifted_ext}
use Rattle.ring.proofs.multiply.Laws.{picked, combed, combed_none, combed_more, combed_all}
use Rattle.ring.proofs.multiply.comb.Goals as goal

pub loop-window-preserved : goal.loop-window-preserved
loop-window-preserved c =
    let l = c.loop-window in
    let w : ℕ = 5 * (l.window - 1) in
    let args = c.args in
    let a = args.a.now in
    let n = args.n in
    let shift = c.shift_up in
    let back : w + 5 ≡ 5 * l.window = omega arith in (
      omega arith,
      λ b rows inside k h.
          c.add_window.ensures b rows inside k
          ∙ ap (λ (p : Bool). flip p (parity n (λ j. shifted (64 * j) (picked a w b j) k)))
          (shift.ensures k (omega arith)
          ∙ shifted_ext 5 (bits 64 l.x) (combed n a b (w + 5)) k (rw back (l.invariant.1 b rows inside (k - 5) (omega arith))))
          ∙ sym (combed_more n a b w k (omega arith)),
    )

pub returns : goal.returns
returns c = λ b rows inside k h.
    let l = c.loop-window in
    let args = c.args in
    let a = args.a.now in
    let none : 5 * l.window ≡ 0 = omega arith in
    l.invariant.1 b rows inside k h ∙ ap (λ (w : ℕ). combed args.n a b w k) none
    ∙ combed_all args.n a b k (λ j. (c.shared_slice_known-1.given j).fits)

pub loop-window-init : goal.loop-window-init
loop-window-init c = (
  refl,
  λ b rows inside k h. bits_none 64 98 k ∙ sym (combed_none c.args.n c.args.a.now b k),
)
