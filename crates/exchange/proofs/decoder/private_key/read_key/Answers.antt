-- `read_key`: the positions of h0, and behind them those of h1.
use mathlib.Core.Path.{◌≡◌, ap, ◌∙◌}
use mathlib.Core.List.{List}
use Prim.Native.Nat.{ℕ, ◌*◌, ◌-◌, ◌≤◌}
use native.Mathlib.Omega.{arith}
use lib.ListN.{length, take, drop, length-drop}
use lib.Seq.{take-length}
use Rattle.exchange.specs.decoder.PrivateKey.{positions0, positions1}
use Rattle.ring.specs.Bytes.{numbers}
use Rattle.ring.proofs.Levels.{sizes}
use Rattle.exchange.proofs.decoder.private_key.read_key.Goals as goal

pub half-requires : goal.half-requires
half-requires c =
    let d = c.key_weight-d.ensures in
    let size = sizes c.args.level in
    let long = c.requires in
    (omega arith, omega arith)

-- all that lies behind n bytes
rest : (n : ℕ) (l : List ℕ) → take (length l - n) (drop n l) ≡ drop n l
rest n l = rw (← length-drop n l) (take-length (drop n l))

pub half-requires-2 : goal.half-requires-2
half-requires-2 c =
    let d = c.key_weight-d in
    let size = sizes c.args.level in
    let long = c.requires in
    let bytes = c.args.bytes.now in
    let room : 2 * d.result ≤ length (drop (2 * d.result) bytes) = rw (length-drop (2 * d.result) bytes) (omega (arith, d.ensures)) in
    (omega (arith, d.ensures), rw (rest (2 * d.result) bytes) room)

pub returns : goal.returns
unfolding positions0 positions1
returns c =
    let d = c.key_weight-d in
    let bytes = c.args.bytes.now in
    let first = c.half.ensures in
    let second = c.half-2.ensures in
    record {
      fact_1 = (first.0, rw d.ensures at first.1);
      fact_2 = (second.0, rw d.ensures at (second.1 ∙ ap (numbers 2 d.result) (rest (2 * d.result) bytes)));
    }
