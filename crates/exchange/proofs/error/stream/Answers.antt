-- `stream` squeezes the front of its array.
use mathlib.Core.Path.{sym, ◌∙◌}
use Prim.Native.Nat.{◌*◌}
use native.Mathlib.Omega.{arith}
use lib.Seq.{take_at}
use Rattle.hashing.specs.Sponge.{shake256}
use Rattle.ring.specs.inner.Sizes.{error_bytes}
use Rattle.ring.proofs.Levels.{sizes}
use Rattle.exchange.proofs.Parts.{blank_long, blank_front}
use Rattle.exchange.proofs.error.stream.Goals as goal

pub returns : goal.returns
unfolding shake256
returns c =
    let digest = c.digest in
    let cut = blank_front (4 * c.error_weight-n.result) error_bytes (omega (arith, sizes c.args.level)) in
    rw (← c.error_weight-n.ensures)
    (take_at _ _ _ (digest.auto.out ∙ cut) ∙ rw cut at digest.ensures)

pub overflow_mul-n : goal.overflow_mul-n
overflow_mul-n c = omega (arith, sizes c.args.level)

pub slice_bounds-words-end : goal.slice_bounds-words-end
slice_bounds-words-end c = omega (arith, sizes c.args.level, blank_long error_bytes)

pub slice_bounds-digest-end : goal.slice_bounds-digest-end
slice_bounds-digest-end c = sym (blank_front _ error_bytes (omega (arith, sizes c.args.level)))
