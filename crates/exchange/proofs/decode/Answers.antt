-- `decode` gives what the decoder finds where its judge finds nothing: its error, or zeros with 6.
use mathlib.Core.Path.{sym, ap, ap₂, ◌∙◌}
use mathlib.Core.List.{List, [], ◌∷◌}
use Prim.Native.Nat.{ℕ}
use Rattle.hashing.specs.Answers.Outcome.{gives}
use Rattle.hashing.specs.declared.refusal.Refusal.TheVariants.{Undecoded}
use Rattle.hashing.proofs.Answers.{done, refuses, last_applies, last_clear}
use Rattle.ring.specs.Bytes.{bytes_of}
use Rattle.ring.specs.Levels.{level_of}
use Rattle.exchange.specs.decoder.Decoder.{Pair, nothing, bgf}
use Rattle.exchange.specs.Promises.{decode_says}
use Rattle.exchange.proofs.Judged.{refuses_first, decoding_clear, decoding_numbered}
use Rattle.exchange.proofs.Parts.{no_bytes}
use Rattle.exchange.proofs.decoder.Laws.{found_of, found_none}
use Rattle.exchange.proofs.decode.Goals as goal

pub returns-in-Err : goal.returns-in-Err
unfolding decode_says
returns-in-Err c = rw (c.zero.ensures, c.zero-in-Err.ensures) (sym (refuses _ _ c.in-Err.refusal (refuses_first _ _ c.in-Err.refusal c.in-Err.ensures)))

pub returns-then-write : goal.returns-then-write
unfolding decode_says nothing
returns-then-write c =
    let none = sym c.in_default.ensures in
    let is = decoding_clear none in
    let fails = sym c.write.ensures.0 ∙ c.if-write.true in
    let six = last_applies _ _ (decoding_numbered _ _ _ _ _) none fails in
    let l = level_of c.args.level in
    let e = found_none bgf _ _ _ fails in
    ap₂ (λ (a b : List ℕ). gives 6 (a ∷ b ∷ []))
    (c.write.ensures.1 ∙ ap (λ (f : Pair). bytes_of l.r f.half0) e ∙ no_bytes l.r _ is.room0_is)
    (c.write.ensures.2 ∙ ap (λ (f : Pair). bytes_of l.r f.half1) e ∙ no_bytes l.r _ is.room1_is)
    ∙ sym (refuses _ _ Undecoded (sym six))

pub returns : goal.returns
unfolding decode_says
returns c =
    let none = sym c.in_default.ensures in
    let found = sym c.write.ensures.0 ∙ c.if-write.false in
    let clear = last_clear _ (record { applies = _; number = 6 }) (decoding_numbered _ _ _ _ _) none found in
    rw (done _ _ clear, c.write.ensures.1, c.write.ensures.2, found_of bgf _ _ _ found)
