-- SHA3-384 is the sponge's digest where its judge finds nothing.
use mathlib.Core.Path.{sym}
use lib.Dec.{lit<}
use Rattle.hashing.specs.Promises.{sha3_384_reasons, sha3_384_says}
use Rattle.hashing.specs.Sponge.{sha3_384}
use Rattle.hashing.proofs.Answers.{agree, clear, done, refuses}
use Rattle.hashing.proofs.sha3_384.Goals as goal

pub returns-in-Err : goal.returns-in-Err
unfolding sha3_384_says
returns-in-Err c = rw c.zero.ensures (sym (refuses _ _ c.in-Err.refusal c.in-Err.ensures))

pub returns : goal.returns
unfolding sha3_384_says sha3_384_reasons sha3_384
returns c =
    let none = sym c.in_default.ensures in
    rw (done, c.digest.ensures, agree _ _ (clear _ _ (lit< tt) none).0)
