-- `among`: the common bits of each half.
use Rattle.exchange.specs.decoder.Decoder.{among}
use Rattle.exchange.proofs.decoder.Laws.{in_words, few_words, pair_path}
use Rattle.exchange.proofs.decoder.halves.among.Goals as goal

pub common-requires : goal.common-requires
common-requires c =
    let r = c.block.ensures in
    (few_words _ _ r, in_words _ (rw r c.requires.0))

pub common-requires-2 : goal.common-requires-2
common-requires-2 c =
    let r = c.block.ensures in
    (few_words _ _ r, in_words _ (rw r c.requires.1))

pub returns : goal.returns
unfolding among
returns c = pair_path c.common.ensures c.common-2.ensures
