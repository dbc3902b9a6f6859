-- `lay_eight` copies the bytes of the lane.
use mathlib.Core.Path.{◌≡◌, refl, sym, ap, ◌∙◌}
use mathlib.Core.List.{List, ◌++◌, append_assoc}
use Prim.Native.Nat.{ℕ, ◌+◌, ◌-◌, ◌*◌, ◌/◌, ◌%◌, ◌^◌}
use native.Mathlib.Nat.{div-one}
use native.Mathlib.Omega.{arith}
use lib.ListN.{take, drop}
use lib.Seq.{drop-drop}
use Rattle.hashing.specs.Lists.{tab}
use Rattle.hashing.specs.inner.Parts.{overwritten}
use Rattle.hashing.proofs.lanes.lay_eight.Goals as goal

pub returns : goal.returns
unfolding overwritten tab
returns c =
    let i : ℕ = c.args.i in
    let out = c.args.out.now in
    let bytes : List ℕ = tab 8 (λ m. c.args.lane / 2 ^ (8 * m) % 256) in
    let same : bytes ≡ c.to_le_bytes.result = rw (c.to_le_bytes.ensures, div-one c.args.lane) refl in
    let eight : i + 8 - i ≡ 8 = omega arith in
    rw (c.copy_from_slice.ensures.after, eight, ← same)
    (ap (λ (rest : List ℕ). take i out ++ (bytes ++ rest)) (drop-drop 8 i out) ∙ sym (append_assoc (take i out) bytes (drop (i + 8) out)))
