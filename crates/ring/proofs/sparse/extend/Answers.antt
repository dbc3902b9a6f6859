-- `extend` goes on with the period r: before turn j all words below j have it.
use mathlib.Core.Path.{◌≡◌, sym, ap, ◌∙◌}
use Prim.Native.Nat.{ℕ, ◌+◌, ◌-◌, ◌*◌, ◌/◌, ◌%◌}
use native.Mathlib.Nat.{mod-eq-sub-mod}
use native.Mathlib.Omega.{arith}
use lib.ListN.{length-set}
use Rattle.hashing.specs.Lists.{bits}
use Rattle.ring.proofs.Packed.{fill_below, bits_set_other}
use Rattle.ring.proofs.sparse.Laws.{pair_bits}
use Rattle.ring.proofs.sparse.extend.Goals as goal

pub loop-j-preserved : goal.loop-j-preserved
loop-j-preserved c =
    let was = c.loop-j in
    let r = c.args.r in
    let from : ℕ = 64 * was.j - r in (
      omega arith,
      omega arith,
      length-set was.d was.j c.join.result ∙ was.invariant.2,
      λ a start. fill_below was.d was.j c.join.result (λ k. a (k % r)) (omega arith) (was.invariant.3 a start) (λ e below.
          let place : 64 * (from / 64) + (from % 64 + e) ≡ 64 * was.j + e - r = omega arith in
          c.join.ensures e below ∙ pair_bits was.d (from / 64) (from % 64 + e) (omega arith)
          ∙ ap (bits 64 was.d) place ∙ was.invariant.3 a start (64 * was.j + e - r) (omega arith)
          ∙ ap a (sym (mod-eq-sub-mod (omega arith)))),
      λ k past. bits_set_other was.d was.j c.join.result k (λ e. omega arith) ∙ was.invariant.4 k past,
    )

pub returns : goal.returns
returns c =
    let was = c.loop-j in
    let all : was.j ≡ 2 * (c.args.r / 64) + 2 = omega arith in
    record { fact_1 = rw (← all) was.invariant.3; fact_2 = was.invariant.4 }
