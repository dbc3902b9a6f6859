-- `write` stores what the decoder finds under the key that was read.
use mathlib.Core.Path.{ap, ap₂, ◌∙◌}
use native.Mathlib.Omega.{arith}
use Rattle.ring.specs.Bytes.{list_of, bytes_of}
use Rattle.ring.specs.Levels.{level_of}
use Rattle.ring.proofs.Layouts.{pad_rule}
use Rattle.ring.proofs.Levels.{sizes}
use Rattle.exchange.specs.decoder.Decoder.{Pair, bgf, failed, found}
use Rattle.exchange.proofs.Judged.{decoding_clear}
use Rattle.exchange.proofs.decoder.Laws.{read_secret, good_read}
use Rattle.exchange.proofs.decoding.write.Goals as goal

pub find-found-requires : goal.find-found-requires
find-found-requires c =
    let is = decoding_clear c.requires in
    record {
      fact_1 = good_read _ c.read_key.result _ (c.read_key.ensures.fact_1, c.read_key.ensures.fact_2) is.content.good_positions;
      fact_2 = rw c.load.ensures ((pad_rule _ _ is.syndrome_size (λ i. (c.shared_slice_known-2-1.given i).fits)).0 is.content.no_pad);
    }

pub returns : goal.returns
unfolding bytes_of
returns c =
    let l = level_of c.args.level in
    let is = decoding_clear c.requires in
    let key = read_secret _ c.read_key.result _ (c.read_key.ensures.fact_1, c.read_key.ensures.fact_2) in
    let s = c.load.ensures in
    let error = c.find-found.ensures.1 ∙ ap₂ (found bgf l) key s in (
      c.find-found.ensures.0 ∙ ap₂ (failed bgf l) key s,
      c.store.ensures ∙ ap₂ (list_of 8) is.room0_is (ap (λ (p : Pair). p.half0) error),
      c.store-2.ensures ∙ ap₂ (list_of 8) is.room1_is (ap (λ (p : Pair). p.half1) error),
    )

pub read_key-requires : goal.read_key-requires
read_key-requires c = (decoding_clear c.requires).key_size

pub load-requires : goal.load-requires
load-requires c = let is = decoding_clear c.requires in omega (arith, sizes c.args.level)

pub store-requires : goal.store-requires
store-requires c = let is = decoding_clear c.requires in omega (arith, sizes c.args.level)

pub store-requires-2 : goal.store-requires-2
store-requires-2 c = let is = decoding_clear c.requires in omega (arith, sizes c.args.level)
