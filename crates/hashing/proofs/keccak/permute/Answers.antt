-- `hashing::keccak::permute`: after i turns the state that is held is that of i rounds.
use mathlib.Core.Path.{◌≡◌, sym, ◌∙◌, ap}
use native.Mathlib.Numerals.{add-one}
use native.Mathlib.Omega.{arith}
use Rattle.hashing.specs.Keccak.{round_constant, rnd, rounds, keccak_f}
use Rattle.hashing.specs.inner.Inverted.{exchanged}
use Rattle.hashing.proofs.Lists.{from_table}
use Rattle.hashing.proofs.keccak.Laws.{length-rounds}
use Rattle.hashing.proofs.keccak.Inverting.{exchanged-twice, length_exchanged}
use Rattle.hashing.proofs.keccak.permute.Goals as goal

pub loop-i-init : goal.loop-i-init
unfolding rounds
loop-i-init c = (omega arith, sym (exchanged-twice c.exchanged-a.result (omega arith)))

pub loop-i-preserved : goal.loop-i-preserved
unfolding rounds rnd
loop-i-preserved c =
    let turn = c.loop-i in
    let constant = from_table 24 round_constant 0 c.round_constants-constants.ensures turn.i (omega arith) in
    let begun = rounds turn.i (exchanged c.exchanged-a.result) in
    let held = ap exchanged turn.invariant.1 ∙ exchanged-twice begun (length-rounds turn.i _ (length_exchanged _)) in
    (omega arith, c.round-next.ensures ∙ rw (add-one, constant, held))

pub returns : goal.returns
unfolding keccak_f
returns c =
    let lanes = c.args.lanes in
    let last : c.loop-i.i ≡ 24 = omega arith in
    c.exchanged.ensures ∙ ap exchanged (rw last at c.loop-i.invariant.1)
    ∙ exchanged-twice (rounds 24 (exchanged c.exchanged-a.result)) (length-rounds 24 _ (length_exchanged _))
    ∙ ap (rounds 24) (ap exchanged c.exchanged-a.ensures ∙ exchanged-twice lanes (omega arith))
