-- `write_early` stores what the decoder that stops early finds under the key that was read.
use mathlib.Core.Path.{ap, ap₂, ◌∙◌}
use native.Mathlib.Omega.{arith}
use Rattle.hashing.specs.Lists.{bits}
use Rattle.ring.specs.Bytes.{list_of, bytes_of}
use Rattle.ring.specs.Levels.{level_of}
use Rattle.ring.proofs.Layouts.{pad_rule}
use Rattle.ring.proofs.Levels.{facts, r_pos, sizes}
use Rattle.exchange.specs.decoder.Decoder.{Pair, bgf, failed, found}
use Rattle.exchange.specs.decoder.Stopping.{fewest}
use Rattle.exchange.specs.inner.Working.{key_of}
use Rattle.exchange.proofs.Judged.{decoding_clear}
use Rattle.exchange.proofs.decoder.Laws.{read_secret, good_read}
use Rattle.exchange.proofs.decoder.Stopping.{fewest_is}
use Rattle.exchange.proofs.decoding.write_early.Goals as goal

pub find_early-early-requires : goal.find_early-early-requires
find_early-early-requires c =
    let is = decoding_clear c.requires in
    record {
      fact_1 = good_read _ c.read_key.result _ (c.read_key.ensures.fact_1, c.read_key.ensures.fact_2) is.content.good_positions;
      fact_2 = rw c.load.ensures ((pad_rule _ _ is.syndrome_size (λ i. (c.shared_slice_known-2-1.given i).fits)).0 is.content.no_pad);
    }

-- at most five rounds
pub overflow_cast-result : goal.overflow_cast-result
overflow_cast-result c =
    let level = c.args.level in
    let l = level_of level in
    let most = (fewest_is l (r_pos level) (facts level).bounds.least (key_of l c.read_key.result) (bits 64 c.load.result)).within in
    omega (arith, c.find_early-early.ensures.2, most)

pub returns : goal.returns
unfolding bytes_of
returns c =
    let l = level_of c.args.level in
    let is = decoding_clear c.requires in
    let key = read_secret _ c.read_key.result _ (c.read_key.ensures.fact_1, c.read_key.ensures.fact_2) in
    let s = c.load.ensures in
    let error = c.find_early-early.ensures.1 ∙ ap₂ (found bgf l) key s in (
      c.find_early-early.ensures.0 ∙ ap₂ (failed bgf l) key s,
      c.store.ensures ∙ ap₂ (list_of 8) is.room0_is (ap (λ (p : Pair). p.half0) error),
      c.store-2.ensures ∙ ap₂ (list_of 8) is.room1_is (ap (λ (p : Pair). p.half1) error),
      c.find_early-early.ensures.2 ∙ ap₂ (fewest l) key s,
    )

pub read_key-requires : goal.read_key-requires
read_key-requires c = (decoding_clear c.requires).key_size

pub load-requires : goal.load-requires
load-requires c = let is = decoding_clear c.requires in omega (arith, sizes c.args.level)

pub store-requires : goal.store-requires
store-requires c = let is = decoding_clear c.requires in omega (arith, sizes c.args.level)

pub store-requires-2 : goal.store-requires-2
store-requires-2 c = let is = decoding_clear c.requires in omega (arith, sizes c.args.level)
