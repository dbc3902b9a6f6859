-- `beyond` counts the bytes that are missing of a record, and asks its kind.
use mathlib.Core.Path.{◌≡◌, ap, ◌∙◌}
use Prim.Native.Nat.{ℕ, ◌+◌, ◌-◌}
use native.Mathlib.Omega.{arith}
use lib.ListN.{length, take, drop, length-drop}
use Rattle.exchange.specs.Records.{body_of, kind_of}
use Rattle.exchange.proofs.Parts.{rest_all}
use Rattle.batch.specs.inner.Windows.{missing, too_long, beyond}
use Rattle.batch.proofs.triple.beyond.Goals as goal
use Rattle.batch.proofs.triple.beyond.Goals.{After-four, After-two}

-- the part that is read is all that follows
body_is : (c : After-four) →
    let given = c.args in c.four.result ≡ body_of (drop given.at given.bytes.now)
unfolding body_of
body_is c = let given = c.args in rw (rest_all given.at given.bytes.now) at c.four.ensures

kind_is : (c : After-two) →
    let given = c.args in c.two.result ≡ kind_of (drop given.at given.bytes.now)
unfolding kind_of
kind_is c = let given = c.args in rw (rest_all given.at given.bytes.now) at c.two.ensures

pub overflow_sub-result : goal.overflow_sub-result
overflow_sub-result c =
    let given = c.args in
    rw (rest_all given.at given.bytes.now)
    (omega (arith, c.requires.1, body_is (goal.at.overflow_sub-result c).After-four, length-drop given.at given.bytes.now))

pub returns : goal.returns
unfolding beyond missing
returns c =
    let given = c.args in
    let left : 6 + c.four.result - length (take (length given.bytes.now - given.at) (drop given.at given.bytes.now)) ≡ missing given.bytes.now given.at =
    rw (rest_all given.at given.bytes.now) (ap (λ (n : ℕ). 6 + n - length (drop given.at given.bytes.now)) (body_is (goal.at.returns c).After-four)) in
    let stops = c.too_long.ensures ∙ ap too_long (kind_is (goal.at.returns c).After-two) in
    λ i. record { missing = left i; stop = stops i }
