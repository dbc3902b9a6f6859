-- `unpack` unpacks where its judge finds nothing, and refuses with 4 a key that is not good.
use mathlib.Core.Path.{◌≡◌, sym, ap, ◌∙◌}
use mathlib.Core.Bool.{not}
use native.Mathlib.Omega.{arith}
use Rattle.hashing.proofs.Answers.{done, numbered, refused, refuses, first_stays, last_applies, last_clear}
use Rattle.ring.specs.Levels.{level_of}
use Rattle.exchange.specs.decoder.PrivateKey.{good_key}
use Rattle.exchange.proofs.decoder.Laws.{read_good}
use Rattle.packing.specs.Packing.{unpacked}
use Rattle.packing.specs.Promises.{unpack_says}
use Rattle.packing.proofs.Judged.{unpack_clear, unpack_numbered}
use Rattle.packing.proofs.unpack.Goals as goal
use Rattle.packing.proofs.unpack.Goals.{After-is_good}

pub returns-in-Err : goal.returns-in-Err
unfolding unpack_says
returns-in-Err c =
    let first = c.in-Err.ensures in
    rw c.zero.ensures
    (sym (refuses _ _ c.in-Err.refusal (first ∙ sym (first_stays _ _ (λ none. numbered c.in-Err.refusal (first ∙ none))))))

pub read_key-requires : goal.read_key-requires
read_key-requires c =
    c.write_unpacked.auto.private_key ∙ (unpack_clear (sym c.in_default.ensures)).room_is

-- what the test tests
good_is : (c : After-is_good) →
    let given = c.args in
    let l = level_of given.level in c.is_good.result ≡ good_key l (unpacked l given.packed.now)
good_is c =
    let given = c.args in
    read_good _ c.read_key.result _ (c.read_key.ensures.fact_1, c.read_key.ensures.fact_2) c.is_good.ensures
    ∙ ap (good_key (level_of given.level)) c.write_unpacked.ensures

pub returns-then-not-is_good : goal.returns-then-not-is_good
unfolding unpack_says
returns-then-not-is_good c =
    let none = sym c.in_default.ensures in
    let four = last_applies _ _ (unpack_numbered _ _ _) none (ap not (sym (good_is (goal.at.returns-then-not-is_good c).After-is_good) ∙ c.if-not-is_good.true)) in
    rw (c.zero-then-not-is_good.ensures, c.write_unpacked.auto.private_key)
    (sym (refused _ _ (sym four) (λ e. omega arith)))

pub returns : goal.returns
unfolding unpack_says
returns c =
    let none = sym c.in_default.ensures in
    let clear = last_clear _ (record { applies = _; number = 4 }) (unpack_numbered _ _ _) none (ap not (sym (good_is (goal.at.returns c).After-is_good) ∙ c.if-not-is_good.false)) in
    rw (done _ _ clear, c.write_unpacked.ensures)
