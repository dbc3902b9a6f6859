-- `kept`: of all bits the error's are kept, and of none none.
use mathlib.Core.Path.{◌≡◌, refl, ap, ◌∙◌, fun_ext}
use mathlib.Core.Bool.{Bool, true, false, ◌&&◌, and-false}
use Prim.Native.Nat.{ℕ, ◌*◌, ◌/◌, ◌%◌, ◌^◌, ◌-◌, ◌<◌}
use native.Mathlib.Decide.{dec_lt}
use native.Mathlib.Omega.{arith}
use lib.Dec.{ltb}
use lib.ListN.{replicate, get_or-replicate}
use borrow.Author.Tests.{ltb-true, ltb-false}
use Rattle.hashing.specs.Lists.{bit_at, bits}
use Rattle.ring.specs.Levels.{level_of}
use Rattle.ring.specs.Polynomials.{Poly, InRing}
use Rattle.ring.specs.inner.Sizes.{words}
use Rattle.ring.proofs.Levels.{sizes}
use Rattle.ring.proofs.Packed.{bits-zeros}
use Rattle.exchange.specs.decoder.Decoder.{among, nothing}
use Rattle.exchange.specs.inner.Working.{pair_of, kept}
use Rattle.exchange.proofs.decoder.Laws.{pair_path}
use Rattle.exchange.proofs.decoder.planes.Laws.{bit_at-ones}
use Rattle.exchange.proofs.decoder.rounds.kept.Goals as goal

-- all bits of the words are set
all_ones : (k : ℕ) → k < 64 * words → bits 64 (replicate words (2 ^ 64 - 1)) k ≡ true
unfolding bits
all_ones k below =
    ap (λ (w : ℕ). bit_at w (k % 64)) (get_or-replicate words (k / 64) (2 ^ 64 - 1) 0 (omega arith)) ∙ bit_at-ones (k % 64) (omega arith)

among_all : (level : ℕ) (x : Poly) → InRing (level_of level).r x → ◌≡◌ {A = Poly} (λ k. bits 64 (replicate words (2 ^ 64 - 1)) k && x k) x
among_all level x inside = fun_ext (λ k. go k (dec_lt k (64 * words)))
  where
    go : (k : ℕ) → Dec (k < 64 * words) → bits 64 (replicate words (2 ^ 64 - 1)) k && x k ≡ x k
    go k (yes below) = rw (all_ones k below)
    go k (no past) = rw (inside k (omega (arith, sizes level))) (and-false (bits 64 (replicate words (2 ^ 64 - 1)) k))

among_none : (x : Poly) → ◌≡◌ {A = Poly} (λ k. bits 64 (replicate words 0) k && x k) (λ k. false)
among_none x = rw (bits-zeros words)

pub returns : goal.returns
unfolding among nothing
returns c = c.among.ensures ∙ go (ltb 0 left) refl
  where
    left : ℕ
    left = c.args.left

    mask : (m : ℕ) → c.word.result ≡ m → c.filled-mask.result ≡ replicate words m
    mask m is = c.filled-mask.ensures ∙ ap (replicate words) is

    go : (t : Bool) → ltb 0 left ≡ t → among (pair_of (record { half0 = c.filled-mask.result; half1 = c.filled-mask.result })) (pair_of c.args.e) ≡ kept t (pair_of c.args.e)
    go true some = rw (mask 0 (c.word.ensures.1 (ltb-true 0 left some))) (pair_path (among_none _) (among_none _))
    go false gone =
        let zero : left ≡ 0 = omega (arith, ltb-false 0 left gone) in
        rw (mask (2 ^ 64 - 1) (c.word.ensures.0 zero)) (pair_path (among_all c.args.level _ c.requires.fact_2.0) (among_all c.args.level _ c.requires.fact_2.1))
