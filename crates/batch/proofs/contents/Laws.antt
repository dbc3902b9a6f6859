-- What the contents of a whole triple come to: wrapping refuses its pad alone, c0 is in the ring, and a gain is small.
-- Assumes nothing.
use mathlib.Core.Path.{◌≡◌, refl, sym, ap, ap₂, ◌∙◌}
use mathlib.Core.Bool.{Bool, true, false, not}
use mathlib.Core.List.{List, []}
use Prim.Native.Nat.{ℕ, zero, suc, ◌+◌, ◌*◌, ◌≤◌, ◌<◌}
use native.Mathlib.Omega.{arith}
use borrow.Author.Tests.{eq-eqb}
use Rattle.std.proofs.Common.{Result, Ok, Err, Some, None, IfSome}
use lib.Dec.{eqb}
use lib.ListN.{length, get_or, take}
use lib.Seq.{take_at}
use Rattle.hashing.specs.Answers.{differs, first_of, settle}
use Rattle.hashing.specs.Lists.{bits}
use Rattle.hashing.specs.Sponge.{shake256}
use Rattle.hashing.proofs.Answers.{settled_two}
use Rattle.ring.specs.Bytes.{bytes_of, numbers, pad_set}
use Rattle.ring.specs.Levels.{Level, known, level_of, message_bytes, poly_bytes, ciphertext_bytes}
use Rattle.ring.specs.Polynomials.{Poly, InRing, bit, add, mul, listed}
use Rattle.ring.proofs.Layouts.{bytes_of-length, bits-bytes_of}
use Rattle.ring.proofs.Levels.{facts, r_pos, sizes}
use Rattle.ring.proofs.Ring.{add_in, mul_in}
use Rattle.exchange.specs.Opening.{syndrome_of}
use Rattle.exchange.specs.Promises.{WrapPromise, wrapping_reasons, wrap_says, content_reasons}
use Rattle.exchange.specs.Sampler.{candidate, appended, replaced_below, replaced}
use Rattle.exchange.specs.Scheme.{bound, bound_h, error_replaced, key_digest, wrapped}
use Rattle.exchange.specs.decoder.Decoder.{bgf, failed}
use Rattle.exchange.specs.decoder.PrivateKey.{good_key, secret}
use Rattle.exchange.specs.decoder.Stopping.{fewest}
use Rattle.exchange.proofs.Errors.{error_in0}
use Rattle.exchange.proofs.decoder.Stopping.{fewest_is}
use Rattle.batch.specs.Triples.{gain, contents}
use Rattle.hashing.specs.declared.refusal.Refusal.TheVariants.{BadPosition}
use Rattle.batch.specs.Stops.{stop}
use Rattle.batch.specs.declared.contents.Gain.{Gain}
use Rattle.batch.specs.declared.stop.Stop.{Stop}
use Rattle.batch.specs.declared.stop.Stop.TheVariants.{Refused}

-- ---- what wrapping answers and sends, by its promise

module _ (level : ℕ) (h m : List ℕ) {answer : ℕ} {c key : List ℕ} (says : WrapPromise level h m (ciphertext_bytes (level_of level)) message_bytes answer c key) where
  pub answer_is : answer ≡ first_of (wrapping_reasons level h m (ciphertext_bytes (level_of level)) message_bytes)
  unfolding wrap_says settle
  answer_is = cc

  pub sent_is : answer ≡ 0 → c ≡ wrapped (level_of level) (key_digest h) (bits 8 h) m
  unfolding wrap_says
  sent_is none = (settled_two _ _ _ c key (sym (rw none at says))).1

-- ---- what wrapping refuses of bodies of the right lengths, and what the contents come to then

module _ (level : ℕ) (key h m : List ℕ) (used : ℕ)
    (is : known level ≡ true) (long : length h ≡ poly_bytes (level_of level)) (whole : length m ≡ message_bytes) where
  wrapping_pad : first_of (wrapping_reasons level h m (ciphertext_bytes (level_of level)) message_bytes)
      ≡ elim (pad_set (level_of level).r h) [ true ↦ 3 | false ↦ 0 ]
  unfolding wrapping_reasons first_of differs
  wrapping_pad =
      rw (
        is,
        eq-eqb (length h) (poly_bytes (level_of level)) long,
        eq-eqb (length m) message_bytes whole,
        eq-eqb (ciphertext_bytes (level_of level)) (ciphertext_bytes (level_of level)) refl,
      )

  -- by its two tests
  told : Bool → Bool → Result Gain Stop
  told pad good =
      let number = elim pad as (λ _. ℕ) [ true ↦ 3 | false ↦ elim (not good) [ true ↦ 4 | false ↦ 0 ] ] in
      elim (eqb number 0) [ true ↦ Ok (gain (level_of level) key h m used) | false ↦ Err (stop number) ]

  contents_told : contents (level_of level) key h m used ≡ told (pad_set (level_of level).r h) (good_key (level_of level) key)
  unfolding contents content_reasons first_of told
  contents_told = refl

  module _ {number : ℕ} (first : number ≡ first_of (wrapping_reasons level h m (ciphertext_bytes (level_of level)) message_bytes)) where
    padded : (t : Bool) → pad_set (level_of level).r h ≡ t → number ≡ elim t [ true ↦ 3 | false ↦ 0 ]
    padded t e = first ∙ wrapping_pad ∙ ap (λ (b : Bool). elim b as (λ _. ℕ) [ true ↦ 3 | false ↦ 0 ]) e

    no_pad : number ≡ 0 → pad_set (level_of level).r h ≡ false
    no_pad none = go (pad_set (level_of level).r h) refl
      where
        go : (t : Bool) → pad_set (level_of level).r h ≡ t → t ≡ false
        go true e = absurd (let three : ◌≡◌ {A = ℕ} number 3 = padded true e in omega (arith, three, none))
        go false e = refl

    pub pad_stops : (number ≡ 0 → ⊥) → Err (stop number) ≡ contents (level_of level) key h m used
    unfolding told
    pad_stops some = go (pad_set (level_of level).r h) refl
      where
        go : (t : Bool) → pad_set (level_of level).r h ≡ t → Err (stop number) ≡ contents (level_of level) key h m used
        go true e =
            ap (λ (n : ℕ). Err (stop n)) (padded true e)
            ∙ sym (contents_told ∙ ap (λ (pad : Bool). told pad (good_key (level_of level) key)) e)
        go false e = absurd (some (padded false e))

    pub key_stops : number ≡ 0 → good_key (level_of level) key ≡ false
        → Err (Refused BadPosition) ≡ contents (level_of level) key h m used
    unfolding told stop
    key_stops none bad = sym (contents_told ∙ ap₂ told (no_pad none) bad)

    pub good_gains : number ≡ 0 → good_key (level_of level) key ≡ true
        → Ok (gain (level_of level) key h m used) ≡ contents (level_of level) key h m used
    unfolding told
    good_gains none good = sym (contents_told ∙ ap₂ told (no_pad none) good)

-- ---- c0 of a ciphertext

pub c0_in : (level : ℕ) (digest : List ℕ) (h : Poly) (m : List ℕ)
    → InRing (level_of level).r (bits 8 (take (poly_bytes (level_of level)) (wrapped (level_of level) digest h m)))
unfolding wrapped
c0_in level digest h m =
    let l = level_of level in
    let e = bound_h l digest m in
    let c0 = add e.half0 (mul l.r e.half1 h) in
    let inside : InRing l.r c0 = add_in l.r (error_in0 l _) (mul_in l.r (r_pos level) e.half1 h) in
    rw (take_at (bytes_of l.r c0) _ (poly_bytes l) (bytes_of-length l.r c0), bits-bytes_of l.r inside) inside

-- ---- a gain is too small to overflow a total

replaced_most : (len : ℕ) (words : List ℕ) (i : ℕ) (list : List ℕ) → replaced_below len words i list ≤ i
unfolding replaced_below
replaced_most len words zero list = omega arith
replaced_most len words (suc i) list =
    let pos = candidate len i (get_or words i 0) in
    go (listed pos list) (replaced_most len words i (appended i pos list))
  where
    go : {n : ℕ} (t : Bool) → n ≤ i → bit t + n ≤ suc i
    go true few = omega arith
    go false few = omega arith

unfoldable pub FewIn : ℕ → Result Gain Stop → Type 0
FewIn used (Ok gain) = (gain.used ≡ used) × IfSome gain.rounds (λ k. k < 6) × (gain.replaced ≤ 264)
FewIn used (Err stop) = Unit {0}

pub contents_few : (level : ℕ) (key h m : List ℕ) (used : ℕ) → FewIn used (contents (level_of level) key h m used)
unfolding contents gain error_replaced replaced FewIn
contents_few level key h m used = go (eqb (first_of (content_reasons (level_of level) key h)) 0)
  where
    l : Level
    l = level_of level

    s : Poly
    s = syndrome_of l key (wrapped l (key_digest h) (bits 8 h) m)

    within : (t : Bool) → IfSome (elim t [ true ↦ None | false ↦ Some (fewest l (secret l key) s) ]) (λ k. k < 6)
    within true = tt
    within false = omega (arith, (fewest_is l (r_pos level) (facts level).bounds.least (secret l key) s).within)

    go : (t : Bool) → FewIn used (elim t [ true ↦ Ok (gain l key h m used) | false ↦ Err (stop (first_of (content_reasons l key h))) ])
    go true = (
      refl,
      within (failed bgf l (secret l key) s),
      omega (arith, replaced_most (2 * l.r) (numbers 4 l.t (shake256 (bound (key_digest h) m) (4 * l.t))) l.t [], (sizes level).t_most),
    )
    go false = tt
