-- `whole` takes a triple's three bodies.
use mathlib.Core.Path.{◌≡◌, ◌∙◌}
use mathlib.Core.List.{List}
use Prim.Native.Nat.{ℕ, ◌+◌, ◌-◌}
use native.Mathlib.Omega.{arith}
use lib.ListN.{take, drop}
use Rattle.ring.specs.Levels.{level_of, message_bytes, poly_bytes, private_bytes}
use Rattle.batch.specs.Triples.{key_in, public_in, message_in, contents}
use Rattle.batch.proofs.triple.whole.Goals as goal

pub returns : goal.returns
unfolding key_in public_in message_in
returns c =
    let l = level_of c.args.level in
    let part : ℕ → ℕ → List ℕ = λ n k. take n (drop k c.args.bytes.now) in
    let n = c.private_key-private_end.result in
    let k = c.polynomial.result in
    let n-is = c.private_key-private_end.ensures in
    let k-is = c.polynomial.ensures in
    let key : 6 + n - 6 ≡ private_bytes l = omega (arith, n-is) in
    let public-at : 6 + n + 6 ≡ 12 + private_bytes l = omega (arith, n-is) in
    let public : 6 + n + 6 + k - (6 + n + 6) ≡ poly_bytes l = omega (arith, k-is) in
    let message-at : 6 + n + 6 + k + 6 ≡ 18 + private_bytes l + poly_bytes l = omega (arith, n-is, k-is) in
    let message : c.args.used - (6 + n + 6 + k + 6) ≡ message_bytes = omega (arith, c.requires.1, n-is, k-is) in
    c.contents.ensures
    ∙ (λ i. contents l (part (key i) 6) (part (public i) (public-at i)) (part (message i) (message-at i)) c.args.used)
