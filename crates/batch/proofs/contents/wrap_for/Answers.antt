-- `wrap_for` hands on what `wrap` answers, and c0, the front of what it wrote.
use mathlib.Core.Path.{◌≡◌, sym, ap, ap₂, ◌∙◌}
use mathlib.Core.List.{◌++◌}
use Prim.Native.Nat.{ℕ, ◌≤◌}
use native.Mathlib.Omega.{arith}
use lib.ListN.{length, take, drop, length-append}
use Rattle.std.proofs.lemmas.List.{length-replicate}
use Rattle.std.proofs.lemmas.Result.{err_from_is_err_and}
use lib.Seq.{length-take-le, take-append-le}
use Rattle.hashing.specs.Lists.{bits}
use Rattle.hashing.specs.Refusals.{answer, number}
use Rattle.ring.specs.Levels.{level_of, message_bytes, ciphertext_bytes}
use Rattle.ring.specs.inner.Sizes.{most_ciphertext_bytes}
use Rattle.ring.proofs.Levels.{sizes}
use Rattle.exchange.specs.Promises.{WrapPromise}
use Rattle.batch.proofs.contents.Laws.{answer_is, sent_is}
use Rattle.batch.proofs.contents.wrap_for.Goals as goal
use Rattle.batch.proofs.contents.wrap_for.Goals.{After-filled-session_key, After-wrap}

-- the room of the buffers
most : (c : After-filled-session_key) → length c.filled-ciphertext.result ≡ most_ciphertext_bytes
most c = rw c.filled-ciphertext.ensures (length-replicate {A = ℕ} most_ciphertext_bytes 0)

-- the level's ciphertext fits
room : (c : After-filled-session_key) → c.ciphertext-n.result ≤ length c.filled-ciphertext.result
room c =
    omega (arith, c.ciphertext-n.ensures, most c, (sizes c.args.level).r_most)

cut : (c : After-filled-session_key) →
    let n = c.ciphertext-n.result in
    length (take n c.filled-ciphertext.result) ≡ n
cut c = length-take-le _ _ (room c)

lent : (c : After-wrap) → length (take c.ciphertext-n.result c.filled-ciphertext.result) ≡ c.ciphertext-n.result
lent c =
    let most : length c.filled-ciphertext.result ≡ most_ciphertext_bytes = rw c.filled-ciphertext.ensures (length-replicate {A = ℕ} most_ciphertext_bytes 0) in
    length-take-le _ _ (omega (arith, c.ciphertext-n.ensures, most, (sizes c.args.level).r_most))

-- and c0 fits in it
fits : (c : After-wrap) → c.polynomial-half.result ≤ length c.wrap.new.ciphertext
fits c =
    omega (arith, c.wrap.auto.ciphertext, lent c, c.polynomial-half.ensures, c.ciphertext-n.ensures)

front : (c : After-wrap) →
    let half = c.polynomial-half.result in
    let sent = c.wrap.new.ciphertext in
    take half (sent ++ drop c.ciphertext-n.result c.filled-ciphertext.result) ≡ take half sent
front c = take-append-le _ _ _ (fits c)

all_fits : (c : After-wrap) →
    c.polynomial-half.result
    ≤ length (c.wrap.new.ciphertext ++ drop c.ciphertext-n.result c.filled-ciphertext.result)
all_fits c =
    let sent = c.wrap.new.ciphertext in
    omega (arith, fits c, length-append sent (drop c.ciphertext-n.result c.filled-ciphertext.result))

half_long : (c : After-wrap) →
    let half = c.polynomial-half.result in
    length (take half c.wrap.new.ciphertext) ≡ half
half_long c = length-take-le _ _ (fits c)

says : (c : After-wrap) →
    let given = c.args in
    WrapPromise given.level given.public_key.now given.message.now (ciphertext_bytes (level_of given.level)) message_bytes
    (answer c.wrap.result) c.wrap.new.ciphertext c.wrap.new.session_key
says c =
    let key : length c.filled-session_key.result ≡ message_bytes = rw c.filled-session_key.ensures (length-replicate {A = ℕ} message_bytes 0) in
    rw (lent c, c.ciphertext-n.ensures, key) at c.wrap.ensures

pub returns-in_err-wrap-clause-answer_value : goal.returns-in_err-wrap-clause-answer_value
returns-in_err-wrap-clause-answer_value c =
    let given = c.args in
    let wraps = says (goal.at.returns-in_err-wrap-clause-answer_value c).After-wrap in
    let handed = err_from_is_err_and c.from_residual.result c.from_residual.ensures.1 in
    let refused : answer c.wrap.result ≡ number c.in_err-wrap.field-0.0 = rw c.in_err-wrap.was in
    rw (handed.1, handed.2)
    (sym refused ∙ answer_is given.level given.public_key.now given.message.now wraps)

pub returns : goal.returns
returns c =
    let given = c.args in
    let wraps = says (goal.at.returns c).After-wrap in
    let none : answer c.wrap.result ≡ 0 = rw c.in_ok-wrap.was in
    record {
      answer_value = sym none ∙ answer_is given.level given.public_key.now given.message.now wraps;
      c0_value =
          c.load.ensures
          ∙ ap (bits 8) (front (goal.at.returns c).After-wrap
          ∙ ap₂ take c.polynomial-half.ensures (sent_is given.level given.public_key.now given.message.now wraps none));
    }

pub slice_bounds-ciphertext-end : goal.slice_bounds-ciphertext-end
slice_bounds-ciphertext-end c = room (goal.at.slice_bounds-ciphertext-end c).After-filled-session_key

pub slice_bounds-wrap-end : goal.slice_bounds-wrap-end
slice_bounds-wrap-end c = sym (cut (goal.at.slice_bounds-wrap-end c).After-filled-session_key)

pub slice_bounds-ciphertext-end-2 : goal.slice_bounds-ciphertext-end-2
slice_bounds-ciphertext-end-2 c = all_fits (goal.at.slice_bounds-ciphertext-end-2 c).After-wrap

pub slice_bounds-load-end : goal.slice_bounds-load-end
slice_bounds-load-end c = sym (rw (front (goal.at.slice_bounds-load-end c).After-wrap) (half_long (goal.at.slice_bounds-load-end c).After-wrap))

pub load-requires : goal.load-requires
load-requires c = rw (front (goal.at.load-requires c).After-wrap, half_long (goal.at.load-requires c).After-wrap) (omega (arith, c.polynomial-half.ensures, (sizes c.args.level).r_most))
