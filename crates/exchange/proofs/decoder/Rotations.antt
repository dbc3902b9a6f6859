-- Both halves of a key and a syndrome times one power of X: whatever a round looks at stays as it was, so a decoder
-- does what it did. Assumes nothing.
use mathlib.Core.Path.{◌≡◌, refl, sym, ap, ap₂, ◌∙◌, fun_ext}
use mathlib.Core.Bool.{Bool, true, false, ◌&&◌}
use Prim.Native.Nat.{ℕ, zero, suc, ◌+◌, ◌-◌, ◌%◌, ◌<◌}
use native.Mathlib.Nat.{add_assoc, mod-lt, mod-add-mod, add-mod-mod}
use native.Mathlib.Omega.{arith}
use lib.Dec.{leb, ltb, eqb}
use Rattle.ring.specs.Levels.{Level}
use Rattle.ring.specs.Polynomials.{Poly, both, add, mul, power, weight, first_below}
use Rattle.ring.proofs.Ring
use Rattle.ring.proofs.Rotations.{weight-turn, weight-turned}
use Rattle.ring.proofs.Weights.{weight_ext}
use Rattle.exchange.specs.decoder.Decoder.{Decoder, Pair, counter, residual, nothing, passing, reaching, flipped, among, bound_of, threshold, black, gray, round, masked_step, step, after, bgf, failed, found}
use Rattle.exchange.specs.decoder.Stopping.{gone, fewest}
use Rattle.exchange.proofs.decoder.Laws.{pair_path}

-- both halves times one polynomial
abbrev pub times_pair : ℕ → Poly → Pair → Pair
times_pair r x h = record { half0 = mul r x h.half0; half1 = mul r x h.half1 }

module _ (r : ℕ) (pos : 0 < r) where
  -- a factor comes out of the residual; the error does not turn
  pub residual_times : (x : Poly) (h : Pair) (s : Poly) (e : Pair) → residual r (times_pair r x h) (mul r x s) e ≡ mul r x (residual r h s e)
  unfolding residual
  residual_times x h s e =
      sym
      (Ring.mul-add r x s _
      ∙ ap (add (mul r x s)) (Ring.mul-add r x _ _ ∙ ap₂ add (inside e.half0 h.half0) (inside e.half1 h.half1)))
    where
      inside : (a b : Poly) → mul r x (mul r a b) ≡ mul r a (mul r x b)
      inside a b = sym (Ring.mul_assoc r pos x a b) ∙ ap (λ (y : Poly). mul r y b) (Ring.mul_comm r x a) ∙ Ring.mul_assoc r pos a x b

  -- the place that is read is the turned one: ((j + p) + r - k) = j + (p + r - k), modulo r
  place : (k j p : ℕ) → k < r → ((j + p) % r + r - k) % r ≡ (j + (p + r - k) % r) % r
  place k j p below =
      let left : (j + p) % r + r - k ≡ (j + p) % r + (r - k) = omega arith in
      let right : p + r - k ≡ p + (r - k) = omega arith in
      ap (λ (n : ℕ). n % r) left ∙ mod-add-mod (j + p) r (r - k)
      ∙ ap (λ (n : ℕ). n % r) (add_assoc j p (r - k))
      ∙ sym (ap (λ (n : ℕ). (j + n % r) % r) right ∙ add-mod-mod j (p + (r - k)) r)

  pub counter-turned : (k : ℕ) (h x : Poly) (j : ℕ) → counter r (mul r (power r k) h) (mul r (power r k) x) j ≡ counter r h x j
  unfolding counter
  counter-turned k h x j =
      weight_ext r {b = λ p. seen ((p + r - k % r) % r)} (λ p below.
      ap₂ both (Ring.power-mul r pos k h p below)
      (Ring.power-mul r pos k x ((j + p) % r) (mod-lt (j + p) pos) ∙ ap x (place (k % r) j p (mod-lt k pos))))
      ∙ weight-turn r (k % r) (mod-lt k pos) seen
    where
      seen : ℕ → Bool
      seen q = both (h q) (x ((j + q) % r))

  -- all that a round looks at: the weight of the residual, and which counters pass a test
  module _ (k : ℕ) (h : Pair) (s : Poly) (e : Pair) where
    pub weight-same : weight r (residual r (times_pair r (power r k) h) (mul r (power r k) s) e) ≡ weight r (residual r h s e)
    weight-same = ap (weight r) (residual_times (power r k) h s e) ∙ weight-turned r pos k (residual r h s e)

    pub passing-same : (test : ℕ → Bool) →
        let h' = times_pair r (power r k) h in
        passing r h' (residual r h' (mul r (power r k) s) e) test ≡ passing r h (residual r h s e) test
    unfolding passing
    passing-same test = rw (residual_times (power r k) h s e) (pair_path (half h.half0) (half h.half1))
      where
        half : (a : Poly) → ◌≡◌ {A = Poly} (λ j. ltb j r && test (counter r (mul r (power r k) a) (mul r (power r k) (residual r h s e)) j))
            (λ j. ltb j r && test (counter r a (residual r h s e) j))
        half a = fun_ext (λ j. ap (λ (n : ℕ). ltb j r && test n) (counter-turned k a (residual r h s e) j))

-- a round, and a decoder, that gives the same for the turned key and the turned syndrome
abbrev pub Blind : (Level → Pair → Poly → ℕ → Pair → Pair) → Type 0
Blind round =
    (l : Level) → 0 < l.r → (k : ℕ) (h : Pair) (s : Poly) (i : ℕ) (e : Pair)
    → round l (times_pair l.r (power l.r k) h) (mul l.r (power l.r k) s) i e ≡ round l h s i e

abbrev pub BlindDecoder : Decoder → Type 0
BlindDecoder decoder =
    (l : Level) → 0 < l.r → (k : ℕ) (h : Pair) (s : Poly)
    → decoder l (times_pair l.r (power l.r k) h) (mul l.r (power l.r k) s) ≡ decoder l h s

-- rounds that are blind make a decoder that is
pub blind_after : (round : Level → Pair → Poly → ℕ → Pair → Pair) → Blind round → (n : ℕ) → BlindDecoder (λ l h s. after (round l h s) n)
unfolding after
blind_after round blind zero l pos k h s = refl
blind_after round blind (suc n) l pos k h s =
    ap (round l (times_pair l.r (power l.r k) h) (mul l.r (power l.r k) s) n) (blind_after round blind n l pos k h s)
    ∙ blind l pos k h s n (after (round l h s) n)

-- and what a blind decoder gives fails, or is found, as it was
module _ (decoder : Decoder) (blind : BlindDecoder decoder) (l : Level) (pos : 0 < l.r) (k : ℕ) (h : Pair) (s : Poly) where
  pub failed_same : failed decoder l (times_pair l.r (power l.r k) h) (mul l.r (power l.r k) s) ≡ failed decoder l h s
  unfolding failed
  failed_same = rw (blind l pos k h s) (ap (ltb 0) (weight-same l.r pos k h s (decoder l h s)))

  pub found_same : found decoder l (times_pair l.r (power l.r k) h) (mul l.r (power l.r k) s) ≡ found decoder l h s
  unfolding found
  found_same = ap₂ (λ (t : Bool) (e : Pair). elim t [ true ↦ nothing | false ↦ e ]) failed_same (blind l pos k h s)

-- the rounds of BGF
module _ (l : Level) (pos : 0 < l.r) (k : ℕ) (h : Pair) (s : Poly) where
  abbrev h' : Pair
  h' = times_pair l.r (power l.r k) h

  abbrev s' : Poly
  s' = mul l.r (power l.r k) s

  reaching-same : (e : Pair) (bound : ℕ) → reaching l.r h' (residual l.r h' s' e) bound ≡ reaching l.r h (residual l.r h s e) bound
  unfolding reaching
  reaching-same e bound = passing-same l.r pos k h s e (leb bound)

  bound-same : (e : Pair) → bound_of l h' s' e ≡ bound_of l h s e
  unfolding bound_of
  bound-same e = ap (threshold l) (weight-same l.r pos k h s e)

  black_same : (e : Pair) → black l h' s' e ≡ black l h s e
  unfolding black
  black_same e = rw (bound-same e) (reaching-same e (bound_of l h s e))

  gray_same : (e : Pair) → gray l h' s' e ≡ gray l h s e
  unfolding gray
  gray_same e = rw (bound-same e, black_same e, reaching-same e (bound_of l h s e - 3))

  round_same : (e : Pair) → round l h' s' e ≡ round l h s e
  unfolding round
  round_same e = ap (flipped e) (black_same e)

  masked_same : (marks e : Pair) → masked_step l h' s' marks e ≡ masked_step l h s marks e
  unfolding masked_step
  masked_same marks e = ap (λ (p : Pair). flipped e (among marks p)) (reaching-same e _)

  step_same : (i : ℕ) (e : Pair) → step l h' s' i e ≡ step l h s i e
  unfolding step
  step_same zero e = rw (gray_same e, black_same e, round_same e, masked_same (black l h s e) (round l h s e)) (masked_same (gray l h s e) _)
  step_same (suc i) e = round_same e

pub bgf_blind : BlindDecoder bgf
unfolding bgf
bgf_blind = blind_after step step_same 5

-- and of CR 7's decoder, which does as many rounds as it did
pub fewest_same : (l : Level) → 0 < l.r → (k : ℕ) (h : Pair) (s : Poly)
    → fewest l (times_pair l.r (power l.r k) h) (mul l.r (power l.r k) s) ≡ fewest l h s
unfolding fewest gone
fewest_same l pos k h s = ap (first_below 6) (fun_ext (λ n.
    ap (λ (w : ℕ). eqb w 0)
    (ap (λ (e : Pair). weight l.r (residual l.r (times_pair l.r (power l.r k) h) (mul l.r (power l.r k) s) e)) (blind_after step step_same n l pos k h s)
    ∙ weight-same l.r pos k h s (after (step l h s) n))))
