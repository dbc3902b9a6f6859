-- `hash_h` stores both halves.
use native.Mathlib.Omega.{arith}
use Rattle.ring.specs.Bytes.{bytes_of}
use Rattle.ring.proofs.Levels.{sizes}
use Rattle.exchange.proofs.error.hash_h.Goals as goal

pub returns : goal.returns
unfolding bytes_of
returns c = (
  rw (c.words_of-e.ensures.0, c.requires.0) at c.store.ensures,
  rw (c.words_of-e.ensures.1, c.requires.1) at c.store-2.ensures,
  c.words_of-e.ensures.2,
)

pub store-requires : goal.store-requires
store-requires c = let long = c.requires.0 in omega (arith, sizes c.args.level)

pub store-requires-2 : goal.store-requires-2
store-requires-2 c = let long = c.requires.1 in
    omega (arith, sizes c.args.level)
