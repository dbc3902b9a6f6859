-- `make` refuses with 10 where words ran out; else h0 has an inverse, and it writes the keys.
use mathlib.Core.Path.{◌≡◌, sym, ◌∙◌}
use mathlib.Core.Bool.{false}
use native.Mathlib.Omega.{arith}
use Rattle.hashing.specs.Answers.{first_of}
use Rattle.ring.specs.Levels.{level_of}
use Rattle.exchange.specs.Promises.{work_reasons}
use Rattle.exchange.specs.Scheme.{key_ran_out}
use Rattle.exchange.proofs.Judged.{making_clear}
use Rattle.exchange.proofs.keys.Laws.{h0_inverts}
use Rattle.exchange.proofs.keys.make.Goals as goal
use Rattle.exchange.proofs.keys.make.Goals.{Else-drawn}

pub returns-then-drawn : goal.returns-then-drawn
unfolding work_reasons first_of
returns-then-drawn c =
    let is = c.both_halves-drawn.ensures in
    let out = sym is.2 ∙ c.if-drawn.true in
    (rw out, λ zero. absurd (omega arith), is.3)

-- no words ran out
enough : (c : Else-drawn) →
    let given = c.args in
    key_ran_out (level_of given.level) given.seed.now ≡ false
enough c = sym c.both_halves-drawn.ensures.2 ∙ c.if-drawn.false

pub write-requires : goal.write-requires
write-requires c =
    let is = c.both_halves-drawn.ensures in
    record { fact_1 = c.requires; fact_2 = enough (goal.at.write-requires c).Else-drawn; fact_3 = (is.0, is.1) }

pub returns : goal.returns
unfolding work_reasons first_of
returns c =
    let there = h0_inverts _ _ (enough (goal.at.returns c).Else-drawn) in
    (rw (enough (goal.at.returns c).Else-drawn, there), λ zero. c.write.ensures, c.both_halves-drawn.ensures.3)

pub both_halves-drawn-requires : goal.both_halves-drawn-requires
both_halves-drawn-requires c = let is = making_clear c.requires in omega arith
