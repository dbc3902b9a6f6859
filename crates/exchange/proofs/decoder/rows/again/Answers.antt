-- `again`: before turn j all words below j are laid.
use mathlib.Core.Path.{◌≡◌, sym, ap, ◌∙◌}
use mathlib.Core.List.{◌∷◌, []}
use Prim.Native.Nat.{ℕ, ◌+◌, ◌-◌, ◌*◌, ◌/◌, ◌%◌, ◌<◌}
use native.Mathlib.Omega.{arith}
use lib.ListN.{get_or}
use Rattle.hashing.specs.Lists.{bit_at, bits}
use Rattle.ring.proofs.words.Laws.{two_words}
use Rattle.exchange.specs.inner.ByteRows.{twice}
use Rattle.exchange.proofs.decoder.rows.Laws.{twice_high, laid}
use Rattle.exchange.proofs.decoder.rows.again.Goals as goal

pub loop-j-preserved : goal.loop-j-preserved
loop-j-preserved c =
    let was = c.loop-j in
    let given = c.args in
    let joined = c.join-w in
    let next = c.word in
    let r = given.r in
    let x = given.x.now in
    let from : ℕ = 64 * was.j - r in
    let word : (e : ℕ) → e < 64 → bit_at joined.result e ≡ twice r (bits 64 x) (64 * was.j + e) = λ e below.
    let place : 64 * (from / 64) + (from % 64 + e) ≡ 64 * was.j + e - r = omega arith in
    joined.ensures e below ∙ ap (λ (high : ℕ). bits 64 (get_or x (from / 64) 0 ∷ high ∷ []) (from % 64 + e)) next.ensures
    ∙ two_words x (from / 64) (from % 64 + e) (omega arith)
    ∙ ap (bits 64 x) place ∙ sym (twice_high r (bits 64 x) (64 * was.j + e) (omega arith)) in (
      omega arith,
      omega arith,
      c.lay_eight.ensures ∙ laid (twice r (bits 64 x)) was.j joined.result word given.f.now was.f (omega arith) was.invariant.2,
    )
