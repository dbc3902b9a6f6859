-- `hashing::kmac::kmac256` follows key and customization, the message and the output's length through one hash.
use mathlib.Core.List.{append_assoc}
use native.Mathlib.Nat.{zero-add}
use Rattle.hashing.specs.Kmac.{cshake256, kmac256}
use Rattle.hashing.proofs.kmac.Laws.{both}
use Rattle.hashing.proofs.kmac.kmac256.Goals as goal

pub returns : goal.returns
unfolding kmac256 cshake256
returns c =
    let runs = (both c.absorb-soaked.ensures c.right-whole.ensures).goes_on _ c.keyed.ensures.1 in
    let ready = c.finish.ensures.ready _ runs in
    rw (zero-add, append_assoc, c.squeeze.auto.out) at (c.squeeze.ensures.gives _ _ 0 ready)
