-- `xor` goes byte by byte: before turn i the first i bytes are there.
use mathlib.Core.Path.{◌≡◌, refl, ◌∙◌}
use Prim.Native.Nat.{ℕ, ◌<◌}
use native.Mathlib.Omega.{arith}
use lib.Bits.{bit_xor}
use lib.ListN.{length, get_or, length-set}
use Rattle.hashing.proofs.Lists.{filled_none, filled_more, filled_all}
use Rattle.exchange.specs.Scheme.{xor_bytes}
use Rattle.exchange.proofs.bytes.xor.Goals as goal

pub loop-i-init : goal.loop-i-init
loop-i-init c =
    (omega arith, refl, filled_none (λ (k : ℕ). bit_xor (get_or c.args.a.now k 0) (get_or c.args.b.now k 0)) c.args.out.now)

pub loop-i-preserved : goal.loop-i-preserved
loop-i-preserved c =
    let was = c.loop-i in
    let given = c.args in
    let more : was.i < length given.out.now = omega arith in (
      omega arith,
      simp length-set was.invariant.1,
      rw was.invariant.2 (filled_more was.i (λ (k : ℕ). bit_xor (get_or given.a.now k 0) (get_or given.b.now k 0)) given.out.now 0 more),
    )

pub returns : goal.returns
unfolding xor_bytes
returns c =
    let was = c.loop-i in
    let given = c.args in
    let all : was.i ≡ 32 = omega arith in
    was.invariant.2
    ∙ rw all (filled_all 32 (λ (k : ℕ). bit_xor (get_or given.a.now k 0) (get_or given.b.now k 0)) given.out.now c.requires.2)
