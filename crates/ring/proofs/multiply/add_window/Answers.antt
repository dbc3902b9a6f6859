-- `multiply::add_window` meets its contract: 7 words of a are done in each pass. Assumes nothing.
use mathlib.Core.Path.{◌≡◌, refl, sym, ap, ◌∙◌}
use mathlib.Core.Bool.{Bool}
use Prim.Native.Nat.{ℕ, ◌+◌, ◌*◌}
use native.Mathlib.Omega.{arith}
use Rattle.hashing.specs.Lists.{bits}
use Rattle.ring.specs.Polynomials.{flip, parity}
use Rattle.ring.specs.inner.Wide.{shifted}
use Rattle.ring.proofs.Parity.{flip_assoc, flip_false, parity-split}
use Rattle.ring.proofs.multiply.Laws.{picked, pass, room}
use Rattle.ring.proofs.multiply.add_window.Goals as goal

pub loop-pass-preserved : goal.loop-pass-preserved
loop-pass-preserved c =
    let l = c.loop-pass in
    let done : ℕ = 7 * l.pass in
    let next : done + 7 ≡ 7 * (l.pass + 1) = omega arith in
    let a = c.args in
    let r = c.add_rows in
    let o = c.offsets in (
      r.auto.x ∙ l.invariant.0,
      λ b rows inside k.
          let f : ℕ → Bool = λ j. shifted (64 * j) (picked a.a.now a.w b j) k in
          pass a.a.now a.t.now b a.n a.w done c.requires.1 rows inside l.x r.new.x o.result o.ensures
          r.ensures.outside r.ensures.by_index k
          ∙ ap (λ (p : Bool). flip p (parity 7 (λ m. f (done + m)))) (l.invariant.1 b rows inside k)
          ∙ flip_assoc (bits 64 a.x.now k) (parity done f) (parity 7 (λ m. f (done + m)))
          ∙ ap (flip (bits 64 a.x.now k)) (sym (parity-split done 7 f) ∙ ap (λ (n : ℕ). parity n f) next),
    )

pub returns : goal.returns
returns c = λ b rows inside k.
    let l = c.loop-pass in
    let a = c.args in
    let all : 7 * l.pass ≡ a.n = omega arith in
    l.invariant.1 b rows inside k
    ∙ ap (λ (n : ℕ). flip (bits 64 a.x.now k) (parity n (λ j. shifted (64 * j) (picked a.a.now a.w b j) k))) all

pub loop-pass-init : goal.loop-pass-init
unfolding parity
loop-pass-init c = (refl, λ b rows inside k. sym (flip_false (bits 64 c.args.x.now k)))

pub add_rows-requires : goal.add_rows-requires
add_rows-requires c = let a = c.args in (
  omega arith,
  λ m h. omega (arith, room a.a.now c.offsets.result a.w (7 * c.loop-pass.pass) a.n m c.offsets.ensures c.requires.1 h),
)
