-- `hashing::keccak::walked`: the lane is met at this step, or not.
use mathlib.Core.Path.{◌∙◌}
use Rattle.hashing.specs.Keccak.{walk, offset_within}
use Rattle.hashing.proofs.keccak.Walking.{met, unmet, goes}
use Rattle.hashing.proofs.keccak.walked.Goals as goal

pub returns-then-y-x : goal.returns-then-y-x
unfolding walk offset_within
returns-then-y-x c =
    let now = c.requires.fact_1 in
    goes _ _ now (rw (now.x, now.y)) (rw (met _ _ now c.if-y-x.true, offset_within))

pub returns : goal.returns
unfolding walk offset_within
returns c =
    let now = c.requires.fact_1 in
    goes _ _ now (rw (now.x, now.y)) (now.turned ∙ rw (unmet _ _ now c.if-y-x.false, offset_within))
