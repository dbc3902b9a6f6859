-- `contents` stops with wrapping's refusal, then with 4; else it decodes c0·h0 under the key that was read.
use mathlib.Core.Path.{◌≡◌, refl, sym, ap, ap₂, ◌∙◌}
use mathlib.Core.Bool.{Bool, true, false}
use Prim.Native.Nat.{ℕ}
use Rattle.std.proofs.Common.{Ok, Err, Option, Some, None}
use Rattle.std.proofs.lemmas.Result.{err_from_is_err_and}
use lib.ListN.{take}
use Rattle.hashing.proofs.Answers.{numbered}
use Rattle.hashing.specs.Lists.{bits}
use Rattle.ring.specs.Levels.{level_of, poly_bytes}
use Rattle.ring.specs.Polynomials.{Poly, mul}
use Rattle.ring.proofs.Levels.{r_pos}
use Rattle.ring.proofs.Ring.{mul_in}
use Rattle.exchange.specs.Opening.{syndrome_of}
use Rattle.exchange.specs.Scheme.{key_digest, wrapped}
use Rattle.exchange.specs.decoder.Decoder.{Pair, bgf, failed}
use Rattle.exchange.specs.decoder.PrivateKey.{good_key}
use Rattle.exchange.specs.decoder.Stopping.{fewest}
use Rattle.exchange.proofs.decoder.Laws.{read_secret, read_good}
use Rattle.batch.specs.Triples.{gain}
use Rattle.batch.specs.declared.stop.Stop.TheVariants.{Refused}
use Rattle.batch.proofs.Stops.{stop_number}
use Rattle.batch.proofs.contents.Laws.{pad_stops, key_stops, good_gains, c0_in}
use Rattle.batch.proofs.contents.contents.Goals as goal
use Rattle.batch.proofs.contents.contents.Goals.{After-is_good, Else-not-is_good, then-early, else-early}

good_is : (c : After-is_good) →
    let given = c.args in
    c.is_good.result ≡ good_key (level_of given.level) given.private_key.now
good_is c = read_good _ c.read_key-key.result _ (c.read_key-key.ensures.fact_1, c.read_key-key.ensures.fact_2) c.is_good.ensures

rises : (c : Else-not-is_good) →
    let given = c.args in
    good_key (level_of given.level) given.private_key.now ≡ true
rises c =
    sym (read_good _ c.read_key-key.result _ (c.read_key-key.ensures.fact_1, c.read_key-key.ensures.fact_2) c.is_good.ensures) ∙ c.if-not-is_good.false

-- c0 is the front of the ciphertext
c0_is : (c : Else-not-is_good) →
    let given = c.args in
    let l = level_of given.level in
    bits 64 c.in_ok-c0.c0
    ≡ bits 8 (take (poly_bytes l) (wrapped l (key_digest given.public_key.now) (bits 8 given.public_key.now) given.message.now))
c0_is c = c.in_ok-c0.ensures.c0_value

pub returns-in_err-c0 : goal.returns-in_err-c0
returns-in_err-c0 c =
    let p = err_from_is_err_and c.from_residual.result c.from_residual.ensures.1 in
    let refusal = c.in_err-c0.field-0.0 in
    let first = c.in_err-c0.ensures.answer_value in
    rw (p.1, p.2)
    (ap Err (sym (stop_number (Refused refusal)))
    ∙ pad_stops c.args.level c.args.private_key.now c.args.public_key.now c.args.message.now c.args.used
    c.requires.level_value c.requires.private_key_len.1 c.requires.private_key_len.2 first (numbered refusal))

pub returns-then-not-is_good : goal.returns-then-not-is_good
returns-then-not-is_good c =
    key_stops c.args.level c.args.private_key.now c.args.public_key.now c.args.message.now c.args.used
    c.requires.level_value c.requires.private_key_len.1 c.requires.private_key_len.2 c.in_ok-c0.ensures.answer_value refl (sym (good_is (goal.at.returns-then-not-is_good c).After-is_good) ∙ c.if-not-is_good.true)

pub syndrome-requires-clause-fact_2 : goal.syndrome-requires-clause-fact_2
syndrome-requires-clause-fact_2 c = rw (c0_is (goal.at.syndrome-requires-clause-fact_2 c).Else-not-is_good) (c0_in _ _ _ _)

pub find_early-early-requires-clause-fact_2 : goal.find_early-early-requires-clause-fact_2
find_early-early-requires-clause-fact_2 c = rw c.syndrome.ensures (mul_in _ (r_pos c.args.level) _ _)

-- the rounds of a gain, by the decoder's two
told : ℕ → Bool → Option ℕ
told rounds fails = elim fails [ true ↦ None | false ↦ Some rounds ]

pub returns : goal.returns
unfolding gain syndrome_of told
returns c =
    let found = c.find_early-early.ensures in
    let l = level_of c.args.level in
    let key = read_secret _ c.read_key-key.result _ (c.read_key-key.ensures.fact_1, c.read_key-key.ensures.fact_2) in
    let s = c.syndrome.ensures ∙ ap₂ (λ (a : Poly) (h : Pair). mul l.r a h.half0) (c0_is (goal.at.returns c).Else-not-is_good) key in
    let fails = found.0 ∙ ap₂ (failed bgf l) key s in
    let fewest_is = found.2 ∙ ap₂ (fewest l) key s in
    let count = c.replaced.ensures in
    let rounds : c.if-early.rounds ≡ (gain l c.args.private_key.now c.args.public_key.now c.args.message.now c.args.used).rounds =
    elim c.if-early.branch [
      | then-early w ↦ w.rounds-is ∙ ap (told c.find_early-early.result.rounds) (sym w.if-early.true) ∙ ap₂ told fewest_is fails
      | else-early w ↦ w.rounds-is ∙ ap (told c.find_early-early.result.rounds) (sym w.if-early.false) ∙ ap₂ told fewest_is fails
    ] in
    ap Ok (λ i. record { rounds = rounds i; replaced = count i; used = c.args.used })
    ∙ good_gains c.args.level c.args.private_key.now c.args.public_key.now c.args.message.now c.args.used
    c.requires.level_value c.requires.private_key_len.1 c.requires.private_key_len.2 c.in_ok-c0.ensures.answer_value refl (rises (goal.at.returns c).Else-not-is_good)
