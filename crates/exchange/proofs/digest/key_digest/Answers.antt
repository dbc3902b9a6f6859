-- `key_digest` squeezes the first 32 of SHA3-384's bytes.
use mathlib.Core.Path.{sym, ◌∙◌}
use lib.Dec.{lit<, lit≤}
use Rattle.hashing.specs.Sponge.{sha3_384}
use Rattle.hashing.proofs.sponge.Squeezing.{sponge_first}
use Rattle.exchange.specs.Scheme.{key_digest}
use Rattle.exchange.proofs.Parts.{blank_long}
use Rattle.exchange.proofs.digest.key_digest.Goals as goal

pub returns : goal.returns
unfolding key_digest sha3_384
returns c =
    rw (blank_long 32) at c.digest.ensures
    ∙ sym (sponge_first 104 (lit< tt) 6 c.args.public_key.now 32 48 (lit≤ tt))
