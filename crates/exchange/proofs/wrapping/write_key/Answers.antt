-- `write_key` copies the digest of the message and the ciphertext.
use mathlib.Core.Path.{◌∙◌}
use Rattle.exchange.specs.Scheme.{hash_k}
use Rattle.exchange.proofs.wrapping.write_key.Goals as goal

pub returns : goal.returns
unfolding hash_k
returns c = c.copy.ensures ∙ c.digest32-key.ensures
