-- `candidate` computes in 64 bits, where the product of two numbers of 32 bits fits.
use borrow.Author.Rules.{rules}
use Rattle.exchange.specs.Sampler.{candidate}
use Rattle.exchange.proofs.sampler.candidate.Goals as goal
use Rattle.exchange.proofs.sampler.candidate.Goals.{Start}

pub returns : goal.returns
unfolding candidate
returns c = search rules
