-- `decode_early` gives what the decoder finds where its judge finds nothing, and tells the rounds with 6 too.
use mathlib.Core.Path.{sym, ap, ap₂, ◌∙◌}
use mathlib.Core.List.{List, [], ◌∷◌}
use Prim.Native.Nat.{ℕ}
use Rattle.hashing.specs.Answers.Outcome.{gives}
use Rattle.hashing.specs.declared.refusal.Refusal.TheVariants.{Undecoded}
use Rattle.hashing.proofs.Answers.{done, refuses, done_reports, refuses_reports, last_applies, last_clear}
use Rattle.ring.specs.Bytes.{bytes_of}
use Rattle.ring.specs.Levels.{level_of}
use Rattle.exchange.specs.decoder.Decoder.{Pair, nothing, bgf}
use Rattle.exchange.specs.Promises.{decode_says, rounds_say}
use Rattle.exchange.proofs.Judged.{refuses_first, decoding_clear, decoding_numbered}
use Rattle.exchange.proofs.Parts.{no_bytes}
use Rattle.exchange.proofs.decoder.Laws.{found_of, found_none}
use Rattle.exchange.proofs.decode_early.Goals as goal

pub returns-in-Err : goal.returns-in-Err
unfolding decode_says rounds_say
returns-in-Err c =
    let first = c.in-Err.ensures in
    record {
      decode_promise = rw (c.zero.ensures, c.zero-in-Err.ensures) (sym (refuses _ _ c.in-Err.refusal (refuses_first _ _ c.in-Err.refusal first)));
      rounds_promise = sym (refuses_reports _ [] _ c.in-Err.refusal first);
    }

pub returns-then-told : goal.returns-then-told
unfolding decode_says rounds_say nothing
returns-then-told c =
    let none = sym c.in_default.ensures in
    let is = decoding_clear none in
    let fails = sym c.write_early-told.ensures.0 ∙ c.if-told.true in
    let six = last_applies _ _ (decoding_numbered _ _ _ _ _) none fails in
    let l = level_of c.args.level in
    let e = found_none bgf _ _ _ fails in record {
      decode_promise = ap₂ (λ (a b : List ℕ). gives 6 (a ∷ b ∷ []))
          (c.write_early-told.ensures.1 ∙ ap (λ (f : Pair). bytes_of l.r f.half0) e ∙ no_bytes l.r _ is.room0_is)
          (c.write_early-told.ensures.2 ∙ ap (λ (f : Pair). bytes_of l.r f.half1) e ∙ no_bytes l.r _ is.room1_is)
          ∙ sym (refuses _ _ Undecoded (sym six));
      rounds_promise = rw c.write_early-told.ensures.3 (sym (done_reports _ [] _ none));
    }

pub returns : goal.returns
unfolding decode_says rounds_say
returns c =
    let none = sym c.in_default.ensures in
    let found = sym c.write_early-told.ensures.0 ∙ c.if-told.false in
    let clear = last_clear _ (record { applies = _; number = 6 }) (decoding_numbered _ _ _ _ _) none found in record { decode_promise = rw (done _ _ clear, c.write_early-told.ensures.1, c.write_early-told.ensures.2, found_of bgf _ _ _ found); rounds_promise = rw c.write_early-told.ensures.3 (sym (done_reports _ [] _ none)) }
