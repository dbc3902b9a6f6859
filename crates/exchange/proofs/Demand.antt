-- Demand 3, over the definitions that the contracts cite, once for every level. Assumes nothing.
use mathlib.Core.Path.{◌≡◌, refl, sym, ap, ap₂, ◌∙◌}
use mathlib.Core.Bool.{Bool, true, false, true≢false}
use mathlib.Core.List.{List, ◌++◌}
use mathlib.Core.Logic.{◌⊎◌, inl, inr}
use Prim.Native.Nat.{ℕ, zero, suc, ◌+◌, ◌≤◌, ◌<◌}
use native.Mathlib.Decide.{ℕ_discrete}
use native.Mathlib.Nat.{not-suc-le-zero}
use native.Mathlib.Omega.{arith}
use borrow.Author.Tests.{ltb-false}
use lib.Bits.{bit_xor, xor_self, xor_zero_r, xor_lt}
use lib.Dec.{ltb, lit<}
use lib.ListN.{length, get_or, take, drop, length-drop, length-append, take-append-drop}
use lib.Seq.{take_at, drop_at, length-take-le}
use Rattle.hashing.specs.Lists.{tab, bits}
use Rattle.hashing.specs.Sponge.{sha3_384}
use Rattle.hashing.proofs.Lists.{length-tab, get_or-tab, tab-get_or, tab_ext}
use Rattle.hashing.proofs.Words.{xor_assoc}
use Rattle.hashing.proofs.sponge.Squeezing.{sponge_bytes}
use Rattle.ring.specs.Bytes.{bytes_of}
use Rattle.ring.specs.Levels.{Level, message_bytes, poly_bytes}
use Rattle.ring.specs.Polynomials.{Poly, InRing, bit, same, weight, one, add, mul}
use Rattle.ring.proofs.Inverses.{same-equal}
use Rattle.ring.proofs.Layouts.{Below, bytes_of-length, bytes_of_below, bytes_of_bits, bytes_of_pad, pad_rule}
use Rattle.ring.proofs.Parity.{flip_self}
use Rattle.ring.proofs.Ring
use Rattle.ring.proofs.Bools.{both_true}
use Rattle.exchange.proofs.Errors.{error_in0, error_in1}
use Rattle.exchange.proofs.Streams.{below_append, below_take, below_drop, below_tab}
use Rattle.exchange.proofs.decoder.Laws.{InPair, Stays, pair_path, add_none, residual_in, found_of, found_none}
use Rattle.exchange.specs.decoder.Decoder.{Decoder, Pair, nothing, residual, failed, found}
use Rattle.exchange.specs.Fits.{Bytes, WellFormed, Fits}
use Rattle.exchange.specs.decoder.PrivateKey.{secret, sigma, digest_in}
use Rattle.exchange.specs.Opening.{syndrome_of, message_of, same_error, key_for, opened}
use Rattle.exchange.specs.Scheme.{hash_h, key_digest, bound, bound_h, hash_l, hash_k, xor_bytes, wrapped}

-- exclusive or with the same bytes twice
pub xor-twice : (a b : List ℕ) → length a ≡ message_bytes → xor_bytes (xor_bytes a b) b ≡ a
unfolding xor_bytes
xor-twice a b size = tab_ext message_bytes _ (λ i. get_or a i 0) twice ∙ whole
  where
    twice : (i : ℕ) → i < message_bytes → bit_xor (get_or (tab message_bytes (λ k. bit_xor (get_or a k 0) (get_or b k 0))) i 0) (get_or b i 0) ≡ get_or a i 0
    twice i h =
        rw (get_or-tab message_bytes (λ k. bit_xor (get_or a k 0) (get_or b k 0)) 0 i h, xor_assoc (get_or a i 0) (get_or b i 0) (get_or b i 0), xor_self (get_or b i 0))
        (xor_zero_r (get_or a i 0))

    whole : tab message_bytes (λ i. get_or a i 0) ≡ a
    whole = rw size at (tab-get_or a 0)

pub same_refl : (r : ℕ) (a : Poly) → same r a a ≡ true
unfolding same
same_refl zero a = refl
same_refl (suc r) a = rw (same_refl r a, flip_self (a r))

module _ (decoder : Decoder) (l : Level) {public private c m : List ℕ} where
  -- the message that opening works out of m's own error is m
  fits_message : Fits decoder l public private c m → message_of l (bound_h l (key_digest public) m) c ≡ m
  unfolding message_of wrapped
  fits_message fits =
      rw (← fits.wraps, drop_at (bytes_of l.r (add (bound_h l (key_digest public) m).half0 (mul l.r (bound_h l (key_digest public) m).half1 (bits 8 public)))) (xor_bytes m (hash_l l.r (bound_h l (key_digest public) m))) (poly_bytes l) (bytes_of-length l.r _))
      (xor-twice m (hash_l l.r (bound_h l (key_digest public) m)) fits.message.size)

  fits_found : Fits decoder l public private c m → found decoder l (secret l private) (syndrome_of l private c) ≡ bound_h l (key_digest public) m
  fits_found fits = found_of decoder l _ _ fits.decodes ∙ fits.finds

  -- and opening's check passes
  fits_same : Fits decoder l public private c m →
      let e = found decoder l (secret l private) (syndrome_of l private c) in
      same_error l.r e (bound_h l (key_digest public) (message_of l e c)) ≡ true
  unfolding same_error
  fits_same fits =
      rw (fits_found fits, fits_message fits, same_refl l.r (bound_h l (key_digest public) m).half0, same_refl l.r (bound_h l (key_digest public) m).half1)

  -- "If one fits, opening gives the session key that wrapping m gave"
  pub fitting_opens : digest_in l private ≡ key_digest public → Fits decoder l public private c m → opened decoder l private c ≡ hash_k m c
  unfolding opened key_for
  fitting_opens belongs fits = rw (belongs, fits_same fits, fits_found fits, fits_message fits)

-- "At most one m fits a ciphertext"
pub at_most_one : (decoder : Decoder) (l : Level) {public private c m n : List ℕ} → Fits decoder l public private c m → Fits decoder l public private c n → m ≡ n
at_most_one decoder l {c = c} fits other =
    sym (fits_message decoder l fits) ∙ ap (λ e. message_of l e c) (sym fits.finds ∙ other.finds) ∙ fits_message decoder l other

-- "and no m fits two"
pub no_two : (decoder : Decoder) (l : Level) {public private c d m : List ℕ} → Fits decoder l public private c m → Fits decoder l public private d m → c ≡ d
no_two decoder l fits other = sym fits.wraps ∙ other.wraps

-- a polynomial of the ring with weight 0 is 0
weightless : (r : ℕ) (a : Poly) → weight r a ≡ 0 → (k : ℕ) → k < r → a k ≡ false
unfolding weight
weightless zero a e k below = absurd (not-suc-le-zero below)
weightless (suc r) a e k below = go (ℕ_discrete k r) (weightless r a (omega arith))
  where
    bit_false : (b : Bool) → bit b ≡ 0 → b ≡ false
    bit_false true q = let z : ◌≡◌ {A = ℕ} 0 1 = sym q in absurd (omega arith)
    bit_false false q = refl

    go : Dec (k ≡ r) → ((i : ℕ) → i < r → a i ≡ false) → a k ≡ false
    go (yes here) before = rw here (bit_false (a r) (omega arith))
    go (no there) before = before k (omega arith)

-- no bit is left where the decoder did not fail
gone : (decoder : Decoder) (l : Level) (h : Pair) (s : Poly) → 0 < l.r → InRing l.r s → failed decoder l h s ≡ false
    → residual l.r h s (decoder l h s) ≡ (λ k. false)
unfolding failed
gone decoder l h s pos hs ok =
    Ring.ring_ext l.r
    (residual_in l.r pos h (decoder l h s) hs)
    (λ k past. refl)
    (weightless l.r (residual l.r h s (decoder l h s)) (none _ ok))
  where
    none : (n : ℕ) → ltb 0 n ≡ false → n ≡ 0
    none n e = let most : n ≤ 0 = ltb-false 0 n e in omega arith

-- what key making makes: h0·g = 1 and h = h1·g
pub record Matched (r : ℕ) (h : Poly) (k : Pair) : Type 0 where
  pub inverse : Poly
  pub inverts : mul r k.half0 inverse ≡ one r
  pub made : h ≡ mul r k.half1 inverse

module _ (r : ℕ) (pos : 0 < r) where
  undo : (k : Pair) (g a : Poly) → mul r k.half0 g ≡ one r → InRing r a → mul r (mul r a k.half0) g ≡ a
  undo k g a inverts ha =
      Ring.mul_assoc r pos a k.half0 g ∙ ap (mul r a) inverts ∙ Ring.mul_comm r a (one r) ∙ Ring.one-mul r pos ha

  -- "c0·h0 + e0·h0 + e1·h1 = 0" says that c0 = e0 + e1·h
  recover : (h c0 : Poly) (k e : Pair) → Matched r h k → InRing r c0 → InRing r e.half0
      → residual r k (mul r c0 k.half0) e ≡ (λ i. false) → c0 ≡ add e.half0 (mul r e.half1 h)
  unfolding residual
  recover h c0 k e matched hc he none =
      let g = matched.inverse in
      let s = mul r c0 k.half0 in
      let x = add (mul r e.half0 k.half0) (mul r e.half1 k.half1) in
      let equal : x ≡ s = sym (Ring.add_cancel s x) ∙ ap (add s) none ∙ add_none s in
      sym (undo k g c0 matched.inverts hc) ∙ ap (λ y. mul r y g) (sym equal) ∙ Ring.add-mul r _ _ g
      ∙ ap₂ add (undo k g e.half0 matched.inverts he) (Ring.mul_assoc r pos e.half1 k.half1 g ∙ ap (mul r e.half1) (sym matched.made))

hash_l_below : (r : ℕ) (e : Pair) → Below 8 (hash_l r e)
unfolding hash_l sha3_384
hash_l_below r e =
    let M = bytes_of r e.half0 ++ bytes_of r e.half1 in below_take 8 message_bytes (sha3_384 M) (sponge_bytes 104 (lit< tt) 0x06 M 48)

xor_bytes_lem : (a b : List ℕ) → Below 8 a → Below 8 b → Bytes message_bytes (xor_bytes a b)
unfolding xor_bytes
xor_bytes_lem a b ha hb =
    record {
      size = length-tab message_bytes _;
      small = below_tab 8 message_bytes _ (λ i. xor_lt 8 _ _ (ha i) (hb i));
    }

message_of_bytes : (l : Level) (e : Pair) (c : List ℕ) → Below 8 c → Bytes message_bytes (message_of l e c)
unfolding message_of
message_of_bytes l e c hc = xor_bytes_lem _ _ (below_drop 8 (poly_bytes l) c hc) (hash_l_below l.r e)

-- wrapping gives a well-formed ciphertext
pub wrapped_well_formed : (l : Level) → 0 < l.r → (digest : List ℕ) (h : Poly) (m : List ℕ) → Below 8 m → WellFormed l (wrapped l digest h m)
unfolding wrapped
wrapped_well_formed l pos digest h m small =
    record {
      bytes =
          record {
            size = length-append c0 c1 ∙ ap₂ ◌+◌ (bytes_of-length l.r _) second.size;
            small = below_append 8 c0 c1 (bytes_of_below l.r _) second.small;
          };
      no_pad = rw (take_at c0 c1 (poly_bytes l) (bytes_of-length l.r _)) (bytes_of_pad l.r (Ring.add_in l.r (error_in0 l (bound digest m)) (Ring.mul_in l.r pos _ _)));
    }
  where
    c0 : List ℕ
    c0 = bytes_of l.r (add (bound_h l digest m).half0 (mul l.r (bound_h l digest m).half1 h))

    c1 : List ℕ
    c1 = xor_bytes m (hash_l l.r (bound_h l digest m))

    second : Bytes message_bytes c1
    second = xor_bytes_lem m (hash_l l.r (bound_h l digest m)) small (hash_l_below l.r (bound_h l digest m))

module _ (decoder : Decoder) (l : Level) (pos : 0 < l.r) (stays : Stays decoder l) (public private c : List ℕ) (well_formed : WellFormed l c) (matched : Matched l.r (bits 8 public) (secret l private)) where
  head : List ℕ
  head = take (poly_bytes l) c

  head_size : length head ≡ poly_bytes l
  unfolding head
  head_size = length-take-le (poly_bytes l) c (omega (arith, well_formed.bytes.size))

  head_in : InRing l.r (bits 8 head)
  unfolding head
  head_in = (pad_rule l.r head head_size (below_take 8 (poly_bytes l) c well_formed.bytes.small)).0 well_formed.no_pad

  -- where opening's check passes and decoding did not fail, the message that it worked out fits
  passes_fits : (e : Pair) → e ≡ decoder l (secret l private) (syndrome_of l private c) → failed decoder l (secret l private) (syndrome_of l private c) ≡ false
      → e ≡ bound_h l (key_digest public) (message_of l e c) → Fits decoder l public private c (message_of l e c)
  unfolding head syndrome_of wrapped message_of
  passes_fits e is ok passes =
      record {
        message = message_of_bytes l e c well_formed.bytes.small;
        wraps = again;
        decodes = ok;
        finds = sym is ∙ passes;
      }
    where
      s : Poly
      s = syndrome_of l private c

      k : Pair
      k = secret l private

      c0 : add e.half0 (mul l.r e.half1 (bits 8 public)) ≡ bits 8 head
      c0 =
          sym
          (recover l.r pos (bits 8 public) (bits 8 head) k e matched head_in (rw is (stays k s).0)
          (rw is (gone decoder l k s pos (Ring.mul_in l.r pos _ _) ok)))

      first : bytes_of l.r (bits 8 head) ≡ head
      first = bytes_of_bits l.r head head_size (below_take 8 (poly_bytes l) c well_formed.bytes.small)

      tail : xor_bytes (message_of l e c) (hash_l l.r e) ≡ drop (poly_bytes l) c
      tail =
          xor-twice (drop (poly_bytes l) c) (hash_l l.r e) (length-drop (poly_bytes l) c ∙ omega (arith, well_formed.bytes.size))

      again : wrapped l (key_digest public) (bits 8 public) (message_of l e c) ≡ c
      again = rw (← passes, c0, first, tail) (take-append-drop (poly_bytes l) c)

  same_fits : failed decoder l (secret l private) (syndrome_of l private c) ≡ false
      → same_error l.r (found decoder l (secret l private) (syndrome_of l private c)) (bound_h l (key_digest public) (message_of l (found decoder l (secret l private) (syndrome_of l private c)) c)) ≡ true
      → Fits decoder l public private c (message_of l (found decoder l (secret l private) (syndrome_of l private c)) c)
  unfolding same_error
  same_fits ok same-error =
      passes_fits e is ok
      (pair_path (same-equal l.r inside.0 other.0 halves.0) (same-equal l.r inside.1 other.1 halves.1))
    where
      e : Pair
      e = found decoder l (secret l private) (syndrome_of l private c)

      is : e ≡ decoder l (secret l private) (syndrome_of l private c)
      is = found_of decoder l (secret l private) (syndrome_of l private c) ok

      inside : InPair l.r e
      inside = rw is (stays (secret l private) (syndrome_of l private c))

      other : InPair l.r (bound_h l (key_digest public) (message_of l e c))
      other = (error_in0 l _, error_in1 l _)

      halves : (same l.r e.half0 (bound_h l (key_digest public) (message_of l e c)).half0 ≡ true) × (same l.r e.half1 (bound_h l (key_digest public) (message_of l e c)).half1 ≡ true)
      halves = both_true _ _ same-error

  -- a message fits, or none does: opening's own check tells
  pub one_or_none : ((m : List ℕ) × Fits decoder l public private c m) ⊎ ((m : List ℕ) → Fits decoder l public private c m → ⊥)
  one_or_none = go (same_error l.r e (bound_h l (key_digest public) (message_of l e c))) (failed decoder l k s) refl refl
    where
      k : Pair
      k = secret l private

      s : Poly
      s = syndrome_of l private c

      e : Pair
      e = found decoder l k s

      go : (same-error failure : Bool) → same_error l.r e (bound_h l (key_digest public) (message_of l e c)) ≡ same-error → failed decoder l k s ≡ failure
          → ((m : List ℕ) × Fits decoder l public private c m) ⊎ ((m : List ℕ) → Fits decoder l public private c m → ⊥)
      go same-error true q p = inr (λ m fits. true≢false (sym p ∙ fits.decodes))
      go false false q p = inr (λ m fits. true≢false (sym (fits_same decoder l fits) ∙ q))
      go true false q p = inl (message_of l e c, same_fits p q)

  -- "if none fits, the key worked out from the substitute sigma and this ciphertext"
  pub none_opens : digest_in l private ≡ key_digest public → ((m : List ℕ) → same_error l.r nothing (hash_h l m) ≡ false) → ((m : List ℕ) → Fits decoder l public private c m → ⊥)
      → opened decoder l private c ≡ hash_k (sigma l private) c
  unfolding opened key_for
  none_opens belongs weighty none = go (same_error l.r e (bound_h l (key_digest public) (message_of l e c))) (failed decoder l k s) refl refl
    where
      k : Pair
      k = secret l private

      s : Poly
      s = syndrome_of l private c

      e : Pair
      e = found decoder l k s

      go : (same-error failure : Bool) → same_error l.r e (bound_h l (key_digest public) (message_of l e c)) ≡ same-error → failed decoder l k s ≡ failure
          → opened decoder l private c ≡ hash_k (sigma l private) c
      go false failure q p = rw (belongs, q)
      go true false q p = absurd (none (message_of l e c) (same_fits p q))
      go true true q p =
          let at : same_error l.r nothing (bound_h l (key_digest public) (message_of l nothing c)) ≡ true = rw (found_none decoder l k s p) at q in
          absurd (true≢false (sym at ∙ weighty (bound (key_digest public) (message_of l nothing c))))
