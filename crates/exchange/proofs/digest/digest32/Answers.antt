-- `digest32` follows both slices through the sponge; its bytes are the first of the 48.
use mathlib.Core.Path.{sym, ◌∙◌}
use mathlib.Core.List.{[], ◌++◌}
use native.Mathlib.Nat.{zero-add}
use lib.Dec.{lit<, lit≤}
use Rattle.hashing.specs.Sponge.{sha3_384}
use Rattle.hashing.proofs.sponge.Squeezing.{sponge_first}
use Rattle.exchange.proofs.Parts.{blank_long}
use Rattle.exchange.proofs.digest.digest32.Goals as goal

pub returns : goal.returns
unfolding sha3_384
returns c =
    let given = c.args in
    let message = given.a.now ++ given.b.now in
    let running = c.absorb-first.ensures.goes_on [] (c.start.ensures.fresh 104) in
    let ready = c.finish-soaked.ensures.ready message (c.absorb-both.ensures.goes_on given.a.now running) in
    let out = c.squeeze.ensures.gives 6 message 0 ready in
    rw (zero-add, c.squeeze.auto.out, blank_long 32) at out
    ∙ sym (sponge_first 104 (lit< tt) 6 message 32 48 (lit≤ tt))
