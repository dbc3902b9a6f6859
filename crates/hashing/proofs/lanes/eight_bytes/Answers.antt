-- `eight_bytes`: the library's number of eight bytes is the sum of the bytes, each in its place.
use mathlib.Core.Path.{◌≡◌, sym, ap, ◌∙◌}
use Prim.Native.Nat.{ℕ, ◌+◌, ◌*◌, ◌/◌, ◌%◌, ◌^◌, ◌<◌}
use native.Mathlib.Nat.{add-zero}
use native.Mathlib.Omega.{arith}
use lib.ListN.{get_or}
use Rattle.hashing.specs.Lists.{bit_at}
use Rattle.hashing.specs.inner.Parts.{lane_of}
use Rattle.hashing.proofs.Words.{bits_at}
use Rattle.hashing.proofs.lanes.Laws.{lane-bits, lane-eight}
use Rattle.hashing.proofs.lanes.eight_bytes.Goals as goal

pub returns : goal.returns
returns c =
    let given = c.args in
    let bytes = given.b.now in
    let f : ℕ → ℕ = λ m. get_or bytes (given.at + m) 0 in
    let small : (m : ℕ) → m < 8 → f m < 2 ^ 8 = λ m h. omega (arith, c.shared_slice_known-1.given (given.at + m)) in
    let all : c.from_le_bytes.result ≡ lane_of 0 8 f = rw (c.from_le_bytes.ensures, lane-eight f small, add-zero) (omega arith) in
    record {
      fact_1 = all;
      fact_2 = λ e below.
          let at : 8 * given.at + e ≡ 8 * (given.at + e / 8) + e % 8 = omega arith in
          ap (λ (w : ℕ). bit_at w e) all ∙ lane-bits f 8 e small below ∙ sym (bits_at 8 bytes (given.at + e / 8) (e % 8) at (omega arith));
    }
