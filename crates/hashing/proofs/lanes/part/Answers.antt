-- `part`: eight bytes or one, as the count says.
use mathlib.Core.Path.{◌≡◌, sym, ap, ◌∙◌}
use Prim.Native.Nat.{ℕ, ◌+◌}
use native.Mathlib.Nat.{add-zero}
use lib.ListN.{get_or}
use Rattle.hashing.specs.inner.Parts.{lane_of}
use Rattle.hashing.proofs.lanes.Laws.{at_once_one, lane-one}
use Rattle.hashing.proofs.lanes.part.Goals as goal
use Rattle.hashing.proofs.lanes.part.Goals.{Else-n-eq8}

single : (c : Else-n-eq8) → c.args.n ≡ 1
single c = at_once_one c.args.k c.args.n c.requires.1 c.if-n-eq8.false

pub returns : goal.returns
returns c =
    let given = c.args in
    let f : ℕ → ℕ = λ m. get_or given.bytes.now (given.i + m) 0 in
    c.byte_in.ensures ∙ sym (ap (λ (n : ℕ). lane_of given.k n f) (single (goal.at.returns c).Else-n-eq8) ∙ lane-one given.k f ∙ rw (add-zero given.i))
