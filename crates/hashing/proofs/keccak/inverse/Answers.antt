-- `inverse` is the complement.
use mathlib.Core.Path.{sym}
use Rattle.hashing.proofs.keccak.Inverting.{turned-complement}
use Rattle.hashing.proofs.keccak.inverse.Goals as goal

pub returns : goal.returns
returns c = sym (turned-complement c.args.word c.ranges.word.fits)
