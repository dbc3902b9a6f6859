-- `write` gives the ciphertext, and then the session key of what it holds.
use Rattle.ring.specs.Levels.{level_of}
use Rattle.ring.proofs.Layouts.{pad_rule}
use Rattle.exchange.proofs.Judged.{wrapping_clear}
use Rattle.exchange.proofs.wrapping.write.Goals as goal

pub write_ciphertext-requires : goal.write_ciphertext-requires
write_ciphertext-requires c =
    let is = wrapping_clear c.requires in
    record {
      fact_1 = (is.public_size, is.message_size, is.ciphertext_room);
      fact_2 = (pad_rule (level_of c.args.level).r c.args.public_key.now is.public_size (λ i. (c.shared_slice_known-1.given i).fits)).0 is.no_pad;
    }

pub write_key-requires : goal.write_key-requires
write_key-requires c =
    (wrapping_clear c.requires).key_room
