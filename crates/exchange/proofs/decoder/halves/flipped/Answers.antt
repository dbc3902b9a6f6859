-- `flipped`: a sum for each half.
use Rattle.exchange.specs.decoder.Decoder.{flipped}
use Rattle.exchange.proofs.decoder.Laws.{in_words, few_words, pair_path}
use Rattle.exchange.proofs.decoder.halves.flipped.Goals as goal

pub sum-requires : goal.sum-requires
sum-requires c =
    let r = c.block.ensures in
    (few_words _ _ r, in_words _ (rw r c.requires.0.0), in_words _ (rw r c.requires.1.0))

pub sum-requires-2 : goal.sum-requires-2
sum-requires-2 c =
    let r = c.block.ensures in
    (few_words _ _ r, in_words _ (rw r c.requires.0.1), in_words _ (rw r c.requires.1.1))

pub returns : goal.returns
unfolding flipped
returns c = pair_path c.sum.ensures c.sum-2.ensures
