-- `half`: before turn i the first i positions are read.
use mathlib.Core.Path.{◌≡◌, refl, ap₂, ◌∙◌}
use mathlib.Core.List.{List, [], ◌∷◌, ◌++◌}
use Prim.Native.Nat.{ℕ, ◌+◌, ◌*◌, ◌<◌}
use native.Mathlib.Numerals.{add-one}
use native.Mathlib.Omega.{arith}
use lib.ListN.{length, take, drop, set, length-set}
use lib.Seq.{take-suc-set}
use Rattle.hashing.specs.Lists.{tab}
use Rattle.ring.specs.Bytes.{little_endian, numbers}
use Rattle.ring.proofs.little_endian.Laws.{bytes_below}
use Rattle.exchange.proofs.decoder.private_key.half.Goals as goal

-- one position more
more : (bytes h : List ℕ) (i v : ℕ) → i < length h → v ≡ little_endian (take 2 (drop (2 * i) bytes)) → take i h ≡ numbers 2 i bytes
    → take (i + 1) (set h i v) ≡ numbers 2 (i + 1) bytes
unfolding numbers tab
more bytes h i v room read before =
    rw (add-one i) (take-suc-set h i v room ∙ ap₂ (λ (l : List ℕ) (x : ℕ). l ++ (x ∷ [])) before read)

pub overflow_cast-h : goal.overflow_cast-h
overflow_cast-h c =
    let small = bytes_below 2 (2 * c.loop-i.i) c.args.bytes.now (λ k. (c.shared_slice_known-1.given k).fits) in
    omega (arith, c.two.ensures)

pub loop-i-preserved : goal.loop-i-preserved
loop-i-preserved c =
    let turn = c.loop-i in
    let room : turn.i < length turn.h = omega arith in (
      omega arith,
      simp length-set turn.invariant.1,
      more c.args.bytes.now turn.h turn.i c.two.result room c.two.ensures turn.invariant.2,
    )

pub loop-i-init : goal.loop-i-init
unfolding numbers tab
loop-i-init c = (omega arith, refl, refl)
