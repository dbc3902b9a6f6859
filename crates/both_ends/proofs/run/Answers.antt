-- `run`: what each entry gives goes on to the next.
use mathlib.Core.Path.{◌≡◌, refl, sym, ap, ap₂, ◌∙◌}
use mathlib.Core.List.{List, [], ◌∷◌, ◌++◌}
use Prim.Native.Nat.{ℕ, ◌≤◌}
use native.Mathlib.Omega.{arith}
use lib.ListN.{length, take, drop, replicate, length-replicate}
use lib.Seq.{length-take-le, take_at}
use Rattle.hashing.specs.Answers.{first_of}
use Rattle.hashing.specs.Answers.Outcome.{gives}
use Rattle.hashing.specs.Refusals.{answer}
use Rattle.hashing.proofs.Answers.{numbered, one_output, two_outputs}
use Rattle.ring.specs.Levels.{level_of, message_bytes, ciphertext_bytes}
use Rattle.ring.specs.inner.Sizes.{most_ciphertext_bytes, most_private_bytes, word_bytes}
use Rattle.ring.proofs.Levels.{sizes}
use Rattle.exchange.specs.Fits.{FromKeyMaking, Bytes}
use Rattle.exchange.specs.Opening.{opened}
use Rattle.exchange.specs.decoder.Decoder.{bgf}
use Rattle.exchange.specs.Promises.{work_reasons, make_key_says, wrap_says, open_says}
use Rattle.exchange.specs.Scheme.{hash_k, private_of}
use Rattle.both_ends.specs.BothEnds.{sent_to}
use Rattle.exchange.proofs.Judged.{hands_on, refuses_first}
use Rattle.both_ends.proofs.Laws
use Rattle.both_ends.proofs.run.Goals as goal
use Rattle.both_ends.proofs.run.Goals.{After-make_key, After-ciphertext-k, In_ok-judge, In_ok-make_key, After-open, In_ok-judge, After-wrap}

-- the level's bytes fit
room_public : (c : After-ciphertext-k) → c.polynomial-n.result ≤ length (replicate {A = ℕ} word_bytes 0)
room_public c = omega (arith, sizes c.args.level, length-replicate {A = ℕ} word_bytes 0)

room_private : (c : After-ciphertext-k) → c.private_key-p.result ≤ length (replicate {A = ℕ} most_private_bytes 0)
room_private c = omega (arith, sizes c.args.level, length-replicate {A = ℕ} most_private_bytes 0)

room_ciphertext : (c : After-ciphertext-k) → c.ciphertext-k.result ≤ length (replicate {A = ℕ} most_ciphertext_bytes 0)
room_ciphertext c = omega (arith, sizes c.args.level, length-replicate {A = ℕ} most_ciphertext_bytes 0)

-- the keys that were made have the level's lengths
public_long : (c : In_ok-make_key) → length c.make_key.new.public_key ≡ c.polynomial-n.result
public_long c = c.make_key.auto.public_key ∙ length-take-le _ _ (omega (arith, sizes c.args.level, length-replicate {A = ℕ} word_bytes 0))

private_long : (c : In_ok-make_key) → length c.make_key.new.private_key ≡ c.private_key-p.result
private_long c = c.make_key.auto.private_key ∙ length-take-le _ _ (omega (arith, sizes c.args.level, length-replicate {A = ℕ} most_private_bytes 0))

says : (c : In_ok-make_key) →
    let given = c.args in
    let public = c.make_key.new.public_key in
    let private = c.make_key.new.private_key in
    gives 0 (public ∷ private ∷ []) ≡ make_key_says given.level given.seed.now (length public) (length private)
says c =
    let given = c.args in
    c.in_ok-make_key.ensures.make_key_promise ∙ sym (ap₂ (make_key_says given.level given.seed.now) c.make_key.auto.public_key c.make_key.auto.private_key)

-- what key making answers, once it is judged, shows in the work
number : (c : After-make_key) →
    let given = c.args in
    answer c.make_key.result ≡ first_of (work_reasons (level_of given.level) given.seed.now)
number c =
    let is = Laws.clear_of (sym c.in_ok-judge.ensures) in
    Laws.made_number c.args.level c.args.seed.now _ _ _
    (record {
      level_known = is.level_known;
      seed_size = is.seed_size;
      public_room = c.make_key.auto.public_key ∙ length-take-le _ _ (omega (arith, sizes c.args.level, length-replicate {A = ℕ} word_bytes 0)) ∙ c.polynomial-n.ensures;
      private_room = c.make_key.auto.private_key ∙ length-take-le _ _ (omega (arith, sizes c.args.level, length-replicate {A = ℕ} most_private_bytes 0)) ∙ c.private_key-p.ensures;
    })
    (c.make_key.ensures.make_key_promise
    ∙ sym (ap₂ (make_key_says c.args.level c.args.seed.now) c.make_key.auto.public_key c.make_key.auto.private_key))

pub returns-in_err-judge-clause-answered : goal.returns-in_err-judge-clause-answered
returns-in_err-judge-clause-answered c =
    hands_on c.from_residual.result _ c.from_residual.ensures.1 (refuses_first _ _ c.in_err-judge.field-0.0 c.in_err-judge.ensures)

pub returns-in_err-make_key-clause-answered : goal.returns-in_err-make_key-clause-answered
returns-in_err-make_key-clause-answered c =
    hands_on c.from_residual-in_err-make_key.result _ c.from_residual-in_err-make_key.ensures.1
    (sym (ap answer c.in_err-make_key.was) ∙ number (goal.at.returns-in_err-make_key-clause-answered c).After-make_key ∙ Laws.later_work _ _ _ _ _ (sym c.in_ok-judge.ensures))

-- the keys that were made are a pair of our own
pair : (c : In_ok-make_key) →
    let given = c.args in
    FromKeyMaking given.level given.seed.now c.make_key.new.public_key c.make_key.new.private_key
pair c = sym (says c)

message : (c : In_ok-judge) → Bytes message_bytes c.args.message.now
message c =
    record {
      size = (Laws.clear_of (sym c.in_ok-judge.ensures)).message_size;
      small = λ i. (c.shared_slice_known-2-1.given i).fits;
    }

-- the keys, lent as the front of their arrays
public_lent : (c : In_ok-make_key) →
    let n = c.polynomial-n.result in
    take n (c.make_key.new.public_key ++ drop n (replicate {A = ℕ} word_bytes 0)) ≡ c.make_key.new.public_key
public_lent c = take_at _ _ _ (public_long c)

private_lent : (c : In_ok-make_key) →
    let p = c.private_key-p.result in
    take p (c.make_key.new.private_key ++ drop p (replicate {A = ℕ} most_private_bytes 0)) ≡ c.make_key.new.private_key
private_lent c = take_at _ _ _ (private_long c)

-- wrapping gives the message's ciphertext and key
wrapped : (c : After-wrap) →
    FromKeyMaking c.args.level c.args.seed.now c.make_key.new.public_key c.make_key.new.private_key →
    Bytes message_bytes c.args.message.now →
    let given = c.args in
    let sent = sent_to (level_of given.level) given.seed.now given.message.now in
    (answer c.wrap.result ≡ 0) × (c.wrap.new.ciphertext ≡ sent) × (c.wrap.new.session_key ≡ hash_k given.message.now sent)
wrapped c own message =
    let given = c.args in
    let room = length-take-le _ _ (omega (arith, sizes c.args.level, length-replicate {A = ℕ} most_ciphertext_bytes 0)) ∙ c.ciphertext-k.ensures in
    two_outputs
    (c.wrap.ensures
    ∙ ap₂ (λ (h : List ℕ) (n : ℕ). wrap_says given.level h given.message.now n (length given.sent.now)) (take_at _ _ _ (c.make_key.auto.public_key ∙ length-take-le _ _ (omega (arith, sizes c.args.level, length-replicate {A = ℕ} word_bytes 0)))) room
    ∙ ap (wrap_says given.level c.make_key.new.public_key given.message.now (ciphertext_bytes (level_of given.level))) (Laws.clear_of (sym c.in_ok-judge.ensures)).sent_room
    ∙ Laws.app given.level given.seed.now given.message.now _ _ own message)
    refl

ciphertext_long : (c : After-wrap) →
    length c.wrap.new.ciphertext ≡ c.ciphertext-k.result
ciphertext_long c =
    c.wrap.auto.ciphertext
    ∙ length-take-le _ _ (omega (arith, sizes c.args.level, length-replicate {A = ℕ} most_ciphertext_bytes 0))

-- the ciphertext, lent as the front of its array
ciphertext_lent : (c : After-wrap) →
    let k = c.ciphertext-k.result in
    take k (c.wrap.new.ciphertext ++ drop k (replicate {A = ℕ} most_ciphertext_bytes 0)) ≡ c.wrap.new.ciphertext
ciphertext_lent c = take_at _ _ _ (ciphertext_long c)

-- and opening what it gives
opens : (c : After-open) →
    FromKeyMaking c.args.level c.args.seed.now c.make_key.new.public_key c.make_key.new.private_key →
    Bytes message_bytes c.args.message.now →
    c.wrap.new.ciphertext ≡ sent_to (level_of c.args.level) c.args.seed.now c.args.message.now →
    let given = c.args in
    let l = level_of given.level in
    let sent = sent_to l given.seed.now given.message.now in
    (answer c.«open».result ≡ 0) × (c.«open».new.session_key ≡ opened bgf l (private_of l given.seed.now) sent)
opens c own message sent =
    let given = c.args in
    one_output
    (c.«open».ensures
    ∙ ap₂ (λ (key d : List ℕ). open_says given.level key d (length given.opened.now))
    (take_at _ _ _ (c.make_key.auto.private_key ∙ length-take-le _ _ (omega (arith, sizes c.args.level, length-replicate {A = ℕ} most_private_bytes 0))))
    (take_at _ _ _ (c.wrap.auto.ciphertext ∙ length-take-le _ _ (omega (arith, sizes c.args.level, length-replicate {A = ℕ} most_ciphertext_bytes 0))) ∙ sent)
    ∙ ap (open_says given.level c.make_key.new.private_key (sent_to (level_of given.level) given.seed.now given.message.now)) (Laws.clear_of (sym c.in_ok-judge.ensures)).opened_room
    ∙ Laws.controller given.level given.seed.now given.message.now _ _ own message)
    refl

-- after key making neither end refuses anything
pub returns-in_err-wrap-clause-answered : goal.returns-in_err-wrap-clause-answered
returns-in_err-wrap-clause-answered c =
    let at = goal.at.returns-in_err-wrap-clause-answered c in
    let wraps = wrapped at.After-wrap (pair at.In_ok-make_key) (message at.In_ok-judge) in
    absurd (numbered c.in_err-wrap.field-0.0 (sym (ap answer c.in_err-wrap.was) ∙ wraps.0))

pub returns-in_err-open-clause-answered : goal.returns-in_err-open-clause-answered
returns-in_err-open-clause-answered c =
    let at = goal.at.returns-in_err-open-clause-answered c in
    let pair = pair at.In_ok-make_key in
    let bytes = message at.In_ok-judge in
    let own = opens at.After-open pair bytes (wrapped at.After-wrap pair bytes).1 in
    absurd (numbered c.in_err-open.field-0.0 (sym (ap answer c.in_err-open.was) ∙ own.0))

pub returns : goal.returns
returns c =
    let given = c.args in
    let at = goal.at.returns c in
    let pair = pair at.In_ok-make_key in
    let bytes = message at.In_ok-judge in
    let wraps = wrapped at.After-wrap pair bytes in
    let own = opens at.After-open pair bytes wraps.1 in
    record {
      answered = sym (ap answer c.in_ok-make_key.was) ∙ number at.After-make_key ∙ Laws.later_work _ _ _ _ _ (sym c.in_ok-judge.ensures);
      keys = (wraps.2, own.1, rw (own.1, wraps.2) (Laws.ends_agree given.level given.seed.now given.message.now _ _ pair bytes));
    }

pub slice_bounds-public_key-end : goal.slice_bounds-public_key-end
slice_bounds-public_key-end c = room_public (goal.at.slice_bounds-public_key-end c).After-ciphertext-k

pub slice_bounds-make_key-end : goal.slice_bounds-make_key-end
slice_bounds-make_key-end c = sym (length-take-le _ _ (room_public (goal.at.slice_bounds-make_key-end c).After-ciphertext-k))

pub slice_bounds-private_key-end : goal.slice_bounds-private_key-end
slice_bounds-private_key-end c = room_private (goal.at.slice_bounds-private_key-end c).After-ciphertext-k

pub slice_bounds-make_key-end-2 : goal.slice_bounds-make_key-end-2
slice_bounds-make_key-end-2 c = sym (length-take-le _ _ (room_private (goal.at.slice_bounds-make_key-end-2 c).After-ciphertext-k))

pub slice_bounds-public_key-end-2 : goal.slice_bounds-public_key-end-2
slice_bounds-public_key-end-2 c = Laws.front_fits c.make_key.new.public_key _ (public_long (goal.at.slice_bounds-public_key-end-2 c).In_ok-make_key)

pub slice_bounds-wrap-end : goal.slice_bounds-wrap-end
slice_bounds-wrap-end c = sym (ap length (public_lent (goal.at.slice_bounds-wrap-end c).In_ok-make_key) ∙ public_long (goal.at.slice_bounds-wrap-end c).In_ok-make_key)

pub slice_bounds-ciphertext-end : goal.slice_bounds-ciphertext-end
slice_bounds-ciphertext-end c = room_ciphertext (goal.at.slice_bounds-ciphertext-end c).After-ciphertext-k

pub slice_bounds-wrap-end-2 : goal.slice_bounds-wrap-end-2
slice_bounds-wrap-end-2 c = sym (length-take-le _ _ (room_ciphertext (goal.at.slice_bounds-wrap-end-2 c).After-ciphertext-k))

pub slice_bounds-private_key-end-2 : goal.slice_bounds-private_key-end-2
slice_bounds-private_key-end-2 c = Laws.front_fits c.make_key.new.private_key _ (private_long (goal.at.slice_bounds-private_key-end-2 c).In_ok-make_key)

pub slice_bounds-open-end : goal.slice_bounds-open-end
slice_bounds-open-end c = sym (ap length (private_lent (goal.at.slice_bounds-open-end c).In_ok-make_key) ∙ private_long (goal.at.slice_bounds-open-end c).In_ok-make_key)

pub slice_bounds-ciphertext-end-2 : goal.slice_bounds-ciphertext-end-2
slice_bounds-ciphertext-end-2 c = Laws.front_fits c.wrap.new.ciphertext _ (ciphertext_long (goal.at.slice_bounds-ciphertext-end-2 c).After-wrap)

pub slice_bounds-open-end-2 : goal.slice_bounds-open-end-2
slice_bounds-open-end-2 c = sym (ap length (ciphertext_lent (goal.at.slice_bounds-open-end-2 c).After-wrap) ∙ ciphertext_long (goal.at.slice_bounds-open-end-2 c).After-wrap)
