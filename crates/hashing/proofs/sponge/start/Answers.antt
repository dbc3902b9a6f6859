-- A new hash is that of the empty message.
use mathlib.Core.Path.{refl}
use Prim.Native.Nat.{ℕ, ◌*◌}
use native.Mathlib.Nat.{zero-div, zero-mod}
use lib.Seq.{drop-nil, take-nil}
use Rattle.hashing.specs.inner.Running.{running}
use Rattle.hashing.specs.Sponge.{absorbed, add_bytes, block}
use Rattle.hashing.proofs.sponge.start.Goals as goal

pub returns : goal.returns
unfolding running absorbed add_bytes block
returns c =
    record {
      first = refl;
      fresh = λ rate. rw (zero-div rate, zero-mod rate, drop-nil {A = ℕ} (0 * rate), take-nil {A = ℕ} rate);
    }
