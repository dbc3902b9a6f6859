-- `finish` adds what the padding adds, and permutes.
use native.Mathlib.Omega.{arith}
use Rattle.hashing.specs.Sponge.{add_byte}
use Rattle.hashing.proofs.sponge.Finishing.{padded-drawn}
use Rattle.hashing.proofs.sponge.finish.Goals as goal

pub returns : goal.returns
unfolding add_byte
returns c =
    record {
      within = omega arith;
      ready = λ M e.
          rw (c.permute.ensures, c.byte_in-2.ensures, c.byte_in.ensures)
          (padded-drawn _ _ M (omega arith) (omega arith) (omega arith) e);
    }
