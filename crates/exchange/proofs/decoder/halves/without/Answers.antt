-- `without`: what both have is flipped.
use mathlib.Core.Path.{◌∙◌, ap}
use Rattle.exchange.specs.decoder.Decoder.{flipped, Pair}
use Rattle.exchange.specs.inner.Working.{pair_of}
use Rattle.exchange.proofs.decoder.Laws.{among_in, without-flipped}
use Rattle.exchange.proofs.decoder.halves.without.Goals as goal

pub flipped-requires : goal.flipped-requires
flipped-requires c =
    (c.requires, rw (← c.among.ensures) at (among_in _ (pair_of c.args.b) (pair_of c.args.a) c.requires))

pub returns : goal.returns
returns c =
    c.flipped.ensures ∙ ap (λ (x : Pair). flipped (pair_of c.args.a) x) c.among.ensures
    ∙ without-flipped (pair_of c.args.a) (pair_of c.args.b)
