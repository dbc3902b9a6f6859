-- Laws of the decoder's definitions, and of what the code makes of them. Assumes nothing.
use mathlib.Core.Path.{◌≡◌, refl, sym, ap, ap₂, ◌∙◌, fun_ext}
use mathlib.Core.Bool.{Bool, true, false, not, ◌&&◌, and-false}
use mathlib.Core.List.{List}
use Prim.Native.Nat.{ℕ, zero, suc, ◌+◌, ◌-◌, ◌*◌, ◌/◌, ◌≤◌, ◌<◌}
use native.Mathlib.Decide.{dec_lt}
use native.Mathlib.Nat.{not-suc-le-zero, le_trans, le-max_right}
use native.Mathlib.Numerals.{add-one}
use native.Mathlib.Omega.{arith}
use borrow.Author.Tests.{le-ltb, lt-leb}
use lib.Dec.{leb, ltb}
use lib.ListN.{length, take}
use Rattle.hashing.specs.Lists.{bits}
use Rattle.ring.specs.inner.Sizes.{most_d, words}
use Rattle.ring.specs.Levels.{Level, level_of}
use Rattle.ring.specs.Polynomials.{Poly, InRing, flip, over, add, mul, weight, support}
use Rattle.ring.proofs.Bools.{both_true}
use Rattle.ring.proofs.Levels.{facts, r_pos, sizes}
use Rattle.ring.proofs.Parity.{flip_false, parity_false}
use Rattle.ring.proofs.Ring
use Rattle.exchange.specs.decoder.Decoder.{Decoder, Pair, counter, threshold, nothing, residual, passing, reaching, among, without, flipped, bound_of, black, gray, round, masked_step, step, after, bgf, failed, found}
use Rattle.exchange.specs.decoder.PrivateKey.{positions0, positions1, secret, rising_from, good_key}
use Rattle.exchange.specs.inner.Working.{key_of, pair_of, Good, Carried}
use Rattle.exchange.specs.declared.decoder.rounds
use Rattle.exchange.specs.declared.halves.Halves.{Halves}
use Rattle.ring.proofs.Weights.{weight-both}

pub pair_path : {e f : Pair} → e.half0 ≡ f.half0 → e.half1 ≡ f.half1 → e ≡ f
pair_path p q = λ i. record { half0 = p i; half1 = q i }

abbrev pub InPair : ℕ → Pair → Type 0
InPair r e = InRing r e.half0 × InRing r e.half1

-- what is marked below r is in the ring
pub below_in : (r : ℕ) (f : ℕ → Bool) → InRing r (λ j. ltb j r && f j)
below_in r f k past = rw (le-ltb k r past)

pub passing_in : (r : ℕ) (h : Pair) (res : Poly) (test : ℕ → Bool) → InPair r (passing r h res test)
unfolding passing
passing_in r h res test = (below_in r _, below_in r _)

pub reaching_in : (r : ℕ) (h : Pair) (res : Poly) (bound : ℕ) → InPair r (reaching r h res bound)
unfolding reaching
reaching_in r h res bound = passing_in r h res (leb bound)

pub flipped_in : (r : ℕ) (e f : Pair) → InPair r e → InPair r f → InPair r (flipped e f)
unfolding flipped
flipped_in r e f he hf = (Ring.add_in r he.0 hf.0, Ring.add_in r he.1 hf.1)

pub among_in : (r : ℕ) (marks e : Pair) → InPair r e → InPair r (among marks e)
unfolding among
among_in r marks e he =
    (λ k past. rw (he.0 k past) (and-false (marks.half0 k)), λ k past. rw (he.1 k past) (and-false (marks.half1 k)))

module _ (l : Level) (h : Pair) (s : Poly) where
  pub masked_in : (marks e : Pair) → InPair l.r e → InPair l.r (masked_step l h s marks e)
  unfolding masked_step
  masked_in marks e he = flipped_in l.r e _ he (among_in l.r marks _ (reaching_in l.r h _ _))

  pub round_in : (e : Pair) → InPair l.r e → InPair l.r (round l h s e)
  unfolding round black
  round_in e he = flipped_in l.r e _ he (reaching_in l.r h _ _)

  pub step_in : (i : ℕ) (e : Pair) → InPair l.r e → InPair l.r (step l h s i e)
  unfolding step
  step_in zero e he = masked_in _ _ (masked_in _ _ (round_in e he))
  step_in (suc i) e he = round_in e he

-- a counter is at most the weight of its half of the key
pub counter_le : (r : ℕ) (h res : Poly) (j : ℕ) → counter r h res j ≤ weight r h
unfolding counter
counter_le r h res j = weight-both r h _

-- all counters of a half are below a bound
abbrev pub Low : ℕ → Poly → Poly → ℕ → Type 0
Low r a res bound = (j : ℕ) → counter r a res j < bound

-- so no bit reaches it
none_reach : (r : ℕ) (h : Pair) (res : Poly) (bound : ℕ) → Low r h.half0 res bound → Low r h.half1 res bound → reaching r h res bound ≡ nothing
unfolding reaching passing nothing
none_reach r h res bound low0 low1 = pair_path (none h.half0 low0) (none h.half1 low1)
  where
    none : (a : Poly) → Low r a res bound → ◌≡◌ {A = Poly} (λ j. ltb j r && leb bound (counter r a res j)) (λ j. false)
    none a low = fun_ext (λ j. rw (lt-leb bound (counter r a res j) (low j)) (and-false (ltb j r)))

pub add_none : (a : Poly) → add a (λ k. false) ≡ a
unfolding add
add_none a = fun_ext (λ k. flip_false (a k))

flip-nothing : (e : Pair) → flipped e nothing ≡ e
unfolding flipped nothing
flip-nothing e = pair_path (add_none e.half0) (add_none e.half1)

-- where all counters are below even the bound for gray bits no round changes e, round 1 with its two more steps neither
module _ (l : Level) (h : Pair) (s : Poly) (e : Pair)
    (low0 : Low l.r h.half0 (residual l.r h s e) (bound_of l h s e - 3)) (low1 : Low l.r h.half1 (residual l.r h s e) (bound_of l h s e - 3)) where
  no_black : black l h s e ≡ nothing
  unfolding black
  no_black = none_reach l.r h _ _ (λ j. omega (arith, low0 j)) (λ j. omega (arith, low1 j))

  no_gray : gray l h s e ≡ nothing
  unfolding gray without nothing
  no_gray = rw (none_reach l.r h (residual l.r h s e) (bound_of l h s e - 3) low0 low1)

  round_idles : round l h s e ≡ e
  unfolding round
  round_idles = rw no_black (flip-nothing e)

  masked_idles : masked_step l h s nothing e ≡ e
  unfolding masked_step among nothing
  masked_idles = flip-nothing e

  pub step_idles : (i : ℕ) → step l h s i e ≡ e
  unfolding step
  step_idles zero = rw (no_black, no_gray, round_idles, masked_idles, masked_idles)
  step_idles (suc i) = round_idles

-- rounds that stay in the ring, and a decoder that does
pub after_in : (r : ℕ) (round : ℕ → Pair → Pair) → ((i : ℕ) (e : Pair) → InPair r e → InPair r (round i e)) → (n : ℕ) → InPair r (after round n)
unfolding after nothing
after_in r round stays zero = (λ k past. refl, λ k past. refl)
after_in r round stays (suc n) = stays n _ (after_in r round stays n)

abbrev pub Stays : Decoder → Level → Type 0
Stays decoder l = (h : Pair) (s : Poly) → InPair l.r (decoder l h s)

pub rounds_in : (l : Level) (h : Pair) (s : Poly) (n : ℕ) → InPair l.r (after (step l h s) n)
rounds_in l h s = after_in l.r (step l h s) (step_in l h s)

pub bgf_in : (l : Level) → Stays bgf l
unfolding bgf
bgf_in l h s = rounds_in l h s 5

pub found_in : (decoder : Decoder) (l : Level) → Stays decoder l → (h : Pair) (s : Poly) → InPair l.r (found decoder l h s)
unfolding found nothing
found_in decoder l stays h s = go (failed decoder l h s)
  where
    go : (t : Bool) → InPair l.r (elim t [ true ↦ nothing | false ↦ decoder l h s ])
    go true = (λ k past. refl, λ k past. refl)
    go false = stays h s

-- what is found, by whether a residual is left
pub found_of : (decoder : Decoder) (l : Level) (h : Pair) (s : Poly) → failed decoder l h s ≡ false → found decoder l h s ≡ decoder l h s
unfolding found
found_of decoder l h s e = rw (e, found)

pub found_none : (decoder : Decoder) (l : Level) (h : Pair) (s : Poly) → failed decoder l h s ≡ true → found decoder l h s ≡ nothing
unfolding found
found_none decoder l h s e = rw (e, found)

pub inside_by : (r : ℕ) {e f : Pair} → e ≡ f → InPair r f → InPair r e
inside_by r same inside = rw same inside

pub residual_in : (r : ℕ) → 0 < r → (h : Pair) {s : Poly} (e : Pair) → InRing r s → InRing r (residual r h s e)
unfolding residual
residual_in r pos h e hs = Ring.add_in r hs (Ring.add_in r (Ring.mul_in r pos _ _) (Ring.mul_in r pos _ _))

-- the residual of no error is the syndrome
mul-nothing : (r : ℕ) (a : Poly) → mul r (λ k. false) a ≡ (λ k. false)
unfolding mul over
mul-nothing r a = fun_ext (λ k. parity_false r)

residual-nothing : (r : ℕ) (h : Pair) (s : Poly) → residual r h s nothing ≡ s
unfolding residual nothing
residual-nothing r h s =
    ap (add s) (ap₂ add (mul-nothing r h.half0) (mul-nothing r h.half1) ∙ add_none (λ k. false)) ∙ add_none s

pub carried_first : (l : Level) (h : Pair) (st : rounds.State.State) → pair_of st.e ≡ nothing → Carried l h (bits 64 st.x) st
unfolding nothing
carried_first l h st none =
    (sym (ap (residual l.r h (bits 64 st.x)) none ∙ residual-nothing l.r h (bits 64 st.x)), inside_by l.r none ((λ k past. refl), λ k past. refl))

-- so the residual that is carried along is of the ring
pub carried_in : (level : ℕ) (h : Pair) (s : Poly) (st : rounds.State.State) → InRing (level_of level).r s → Carried (level_of level) h s st
    → InRing (level_of level).r (bits 64 st.x)
carried_in level h s st inside carried =
    rw carried.0 (residual_in (level_of level).r (r_pos level) h (pair_of st.e) inside)

pub after_more : (round : ℕ → Pair → Pair) (n : ℕ) → after round (n + 1) ≡ round n (after round n)
unfolding after
after_more round n = ap (after round) (add-one n)

-- "In round 1 only"
module _ (l : Level) (h : Pair) (s : Poly) (e : Pair) where
  pub step_first : (i : ℕ) → i ≤ 0 → step l h s i e ≡ masked_step l h s (gray l h s e) (masked_step l h s (black l h s e) (round l h s e))
  unfolding step
  step_first zero none = refl
  step_first (suc i) none = absurd (not-suc-le-zero none)

  pub step_later : (i : ℕ) → 0 < i → step l h s i e ≡ round l h s e
  unfolding step
  step_later zero some = absurd (not-suc-le-zero some)
  step_later (suc i) some = refl

-- the words up to that of r hold all of a polynomial of the ring
pub in_words : (r : ℕ) {a : Poly} → InRing r a → InRing (64 * (r / 64 + 1)) a
in_words r h k past = h k (omega arith)

pub few_words : (level r : ℕ) → r ≡ (level_of level).r → r / 64 + 1 ≤ words
few_words level r e = omega (arith, sizes level)

pub weight_le : (n : ℕ) (a : Poly) → weight n a ≤ n
unfolding weight
weight_le zero a = omega arith
weight_le (suc n) a = go (a n) (weight_le n a)
  where
    go : (t : Bool) → weight n a ≤ n → weight n a + elim t [ true ↦ 1 | false ↦ 0 ] ≤ suc n
    go true h = omega arith
    go false h = omega arith

-- numbers that agree below r, compared with a bound
pub marked : (r : ℕ) (count other : ℕ → ℕ) (bound : ℕ) → ((j : ℕ) → j < r → count j ≡ other j)
    → ◌≡◌ {A = Poly} (λ j. ltb j r && leb bound (count j)) (λ j. ltb j r && leb bound (other j))
marked r count other bound same = fun_ext (λ j. go j (dec_lt j r))
  where
    go : (j : ℕ) → Dec (j < r) → ltb j r && leb bound (count j) ≡ ltb j r && leb bound (other j)
    go j (yes below) = rw (same j below)
    go j (no past) = let end : r ≤ j = omega arith in rw (le-ltb j r end)

-- both halves of what reaches a bound
pub reached : (r : ℕ) (h : Pair) (res : Poly) (bound : ℕ) {m : Pair} → m.half0 ≡ (λ j. ltb j r && leb bound (counter r h.half0 res j))
    → m.half1 ≡ (λ j. ltb j r && leb bound (counter r h.half1 res j)) → m ≡ reaching r h res bound
unfolding reaching passing
reached r h res bound first second = pair_path first second

-- a, flipped where b has it too
flip_common : (a b : Bool) → flip a (b && a) ≡ a && not b
flip_common true true = refl
flip_common true false = refl
flip_common false true = refl
flip_common false false = refl

pub without-flipped : (a b : Pair) → flipped a (among b a) ≡ without a b
unfolding flipped among without add
without-flipped a b =
    pair_path (fun_ext (λ k. flip_common (a.half0 k) (b.half0 k))) (fun_ext (λ k. flip_common (a.half1 k) (b.half1 k)))

pub threshold_above : (l : Level) → 3 < l.least → (s : ℕ) → 3 < threshold l s
unfolding threshold
threshold_above l above s = le_trans above (le-max_right _ l.least)

pub threshold_least : (level s : ℕ) → 3 ≤ threshold (level_of level) s
threshold_least level s = omega (arith, threshold_above (level_of level) (facts level).bounds.least s)

-- a key that was read from bytes: its polynomials, and what the test of its positions tells
module _ (l : Level) (key : Halves (List ℕ)) (bytes : List ℕ)
    (read : ((length key.half0 ≡ most_d) × (take l.d key.half0 ≡ positions0 l bytes)) × ((length key.half1 ≡ most_d) × (take l.d key.half1 ≡ positions1 l bytes))) where
  pub read_secret : key_of l key ≡ secret l bytes
  unfolding secret
  read_secret = pair_path (ap support read.0.1) (ap support read.1.1)

  pub read_good : {t : Bool} → t ≡ rising_from l.r 0 (take l.d key.half0) && rising_from l.r 0 (take l.d key.half1) → t ≡ good_key l bytes
  unfolding good_key
  read_good test = test ∙ ap₂ (λ (a b : List ℕ). rising_from l.r 0 a && rising_from l.r 0 b) read.0.1 read.1.1

  pub good_read : good_key l bytes ≡ true → Good l key
  unfolding good_key
  good_read good =
      let rise = both_true _ _ (rw (← read.0.1, ← read.1.1) at good) in ((read.0.0, rise.0), (read.1.0, rise.1))
