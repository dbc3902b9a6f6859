-- The judge of an inverse is that of a product of a by itself.
use mathlib.Core.Path.{ap, ◌∙◌}
use Rattle.hashing.specs.Answers.{first_of}
use Rattle.ring.proofs.Judging.{one_of_two}
use Rattle.ring.proofs.judge_inverse.Goals as goal

pub returns : goal.returns
returns c = c.judge_product.ensures ∙ ap first_of (one_of_two _ _ _)
