-- Why a rotated key is the same key: key' is what the entry gives for k and the key with answer 0. Assumes nothing.
use mathlib.Core.Path.{◌≡◌, sym, ap, ◌∙◌}
use mathlib.Core.Bool.{true, false}
use mathlib.Core.List.{List, [], ◌∷◌}
use mathlib.Core.Logic.{◌↔◌}
use Prim.Native.Nat.{ℕ, ◌+◌, ◌-◌, ◌%◌, ◌<◌}
use native.Mathlib.Nat.{le_of_lt, mod-lt, mod_self}
use native.Mathlib.Omega.{arith}
use borrow.Author.Tests.{lt-leb}
use lib.ListN.{length, take}
use Rattle.hashing.specs.Answers.Outcome.{gives}
use Rattle.hashing.specs.Lists.{bits}
use Rattle.hashing.proofs.Answers.{done, settled, one_output}
use Rattle.ring.specs.Bytes.{bytes_of, pad_set}
use Rattle.ring.specs.Levels.{level_of, poly_bytes}
use Rattle.ring.specs.Polynomials.{Poly, mul, power, has_inverse}
use Rattle.ring.proofs.Layouts.{Below, bits-bytes_of, bytes_of-length, bytes_of_pad}
use Rattle.ring.proofs.Levels.{r_pos}
use Rattle.ring.proofs.Ring.{mul_in, mul_comm, mul_assoc}
use Rattle.ring.proofs.Rotations.{turned_has, turned_quotient}
use Rattle.exchange.specs.decoder.Decoder.{Decoder, bgf, failed}
use Rattle.exchange.specs.decoder.PrivateKey.{secret, good_key, tail, sigma, digest_in}
use Rattle.exchange.specs.Fits.{Fits, FromKeyMaking}
use Rattle.exchange.specs.Opening.{syndrome_of, opened}
use Rattle.exchange.specs.Promises.{content_reasons, decoding_reasons, decode_says, rounds_say, opening_reasons, open_says}
use Rattle.exchange.proofs.decoder.Rotations.{BlindDecoder, bgf_blind, failed_same, found_same, fewest_same}
use Rattle.exchange.specs.Scheme.{h0_of, h1_of, public_of}
use Rattle.exchange.proofs.Making.{secret_back}
use Rattle.exchange.proofs.Pairs.{made_of}
use Rattle.exchange.proofs.keys.Laws.{h0_half, h1_half, half_inverts}
use Rattle.service.specs.Rotation.{turned, turned_pair, rotated, rotate_key_reasons, rotate_key_says, RotateKeyPromise, public_for}
use Rattle.service.proofs.Judged.{RotateClear, rotate_clear, rotate-none}
use Rattle.service.proofs.Keys

pub rotate_key_just_one : (level k : ℕ) (key : List ℕ) (room : ℕ) {r r' : ℕ} {out out' : List ℕ}
    → RotateKeyPromise level k key room r out → RotateKeyPromise level k key room r' out' → (r ≡ r') × (out ≡ out')
rotate_key_just_one level k key room = one_output

module _ (level k : ℕ) (key key' : List ℕ) (room : ℕ) (says : rotate_key_says level k key room ≡ gives 0 (key' ∷ [])) where
  is : RotateClear level k key room
  unfolding rotate_key_says
  is = rotate_clear (settled _ _ says).0

  key_is : key' ≡ rotated (level_of level) k key
  unfolding rotate_key_says
  key_is = let all = (settled _ _ says).1 in cc

  -- the rotated key, as it is read
  secret_is : secret (level_of level) key' ≡ turned_pair (level_of level).r k (secret (level_of level) key)
  secret_is = rw key_is (Keys.secret-rotated level key is.good_positions k)

  -- "keep sigma and D"
  pub tail_is : tail (level_of level) key' ≡ tail (level_of level) key
  tail_is = rw key_is (Keys.tail-rotated level key is.good_positions k)

  length_is : length key' ≡ length key
  length_is = rw key_is (Keys.length-rotated level key is.good_positions k is.key_size ∙ sym is.key_size)

  good_is : good_key (level_of level) key' ≡ good_key (level_of level) key
  good_is = rw key_is (Keys.good_rotated level key is.good_positions k ∙ sym is.good_positions)

  -- "the public key, if any, is equal"
  pub has_public : has_inverse (level_of level).r (secret (level_of level) key').half0 ≡ has_inverse (level_of level).r (secret (level_of level) key).half0
  unfolding turned_pair turned
  has_public = rw secret_is (turned_has (level_of level).r (r_pos level) k (le_of_lt is.within) (secret (level_of level) key).half0)

  -- and by CR 9 there is always one
  pub inverts : has_inverse (level_of level).r (secret (level_of level) key).half0 ≡ true
  inverts = half_inverts level (Keys.half0 level key is.good_positions)

  pub same_public : public_for (level_of level) key' ≡ public_for (level_of level) key
  unfolding public_for turned_pair turned
  same_public =
      rw secret_is
      (turned_quotient (level_of level).r (r_pos level) k (le_of_lt is.within) (secret (level_of level) key).half0 (secret (level_of level) key).half1 inverts)

  -- "the decoder gives the same answer for the rotated syndrome": number, error and rounds
  module _ (s : List ℕ) (size : length s ≡ poly_bytes (level_of level)) (no_pad : pad_set (level_of level).r s ≡ false) where
    s' : List ℕ
    s' = bytes_of (level_of level).r (turned (level_of level).r k (bits 8 s))

    syndrome_is : bits 8 s' ≡ turned (level_of level).r k (bits 8 s)
    unfolding s' turned
    syndrome_is = bits-bytes_of (level_of level).r (mul_in (level_of level).r (r_pos level) _ _)

    module _ (room0 room1 : ℕ) where
      reasons_same : decoding_reasons level key' s' room0 room1 ≡ decoding_reasons level key s room0 room1
      unfolding decoding_reasons content_reasons s' turned
      reasons_same =
          let long = bytes_of-length (level_of level).r (turned (level_of level).r k (bits 8 s)) ∙ sym size in
          let clear = bytes_of_pad (level_of level).r (mul_in (level_of level).r (r_pos level) (power (level_of level).r k) (bits 8 s)) ∙ sym no_pad in
          rw (length_is, long, clear, good_is)

      pub decodes_same : decode_says level key' (bytes_of (level_of level).r (turned (level_of level).r k (bits 8 s))) room0 room1 ≡ decode_says level key s room0 room1
      unfolding decode_says s' turned_pair turned
      decodes_same =
          let l = level_of level in
          rw (
            reasons_same,
            syndrome_is,
            secret_is,
            failed_same bgf bgf_blind l (r_pos level) k (secret l key) (bits 8 s),
            bgf_blind l (r_pos level) k (secret l key) (bits 8 s),
          )

      pub rounds-same : rounds_say level key' (bytes_of (level_of level).r (turned (level_of level).r k (bits 8 s))) room0 room1 ≡ rounds_say level key s room0 room1
      unfolding rounds_say s' turned_pair turned
      rounds-same =
          let l = level_of level in
          rw (reasons_same, syndrome_is, secret_is, fewest_same l (r_pos level) k (secret l key) (bits 8 s))

  -- the syndrome of a ciphertext turns with the key
  syndrome_of_is : (c : List ℕ) → syndrome_of (level_of level) key' c ≡ turned (level_of level).r k (syndrome_of (level_of level) key c)
  unfolding syndrome_of turned_pair turned
  syndrome_of_is c =
      let r = (level_of level).r in
      let x = power r k in
      let c0 = bits 8 (take (poly_bytes (level_of level)) c) in
      let h0 = (secret (level_of level) key).half0 in
      rw secret_is
      (sym (mul_assoc r (r_pos level) c0 x h0) ∙ ap (λ (y : Poly). mul r y h0) (mul_comm r c0 x) ∙ mul_assoc r (r_pos level) x c0 h0)

  -- "opening gives the same session key for every ciphertext", with any decoder that is blind to the turn; refusals too
  pub opened-same : (decoder : Decoder) → BlindDecoder decoder → (c : List ℕ) → opened decoder (level_of level) key' c ≡ opened decoder (level_of level) key c
  unfolding opened sigma digest_in turned_pair turned
  opened-same decoder blind c =
      rw (
        tail_is,
        secret_is,
        syndrome_of_is c,
        found_same decoder blind (level_of level) (r_pos level) k (secret (level_of level) key) (syndrome_of (level_of level) key c),
      )

  pub opens_same : (c : List ℕ) (room_key : ℕ) → open_says level key' c room_key ≡ open_says level key c room_key
  unfolding open_says opening_reasons content_reasons
  opens_same c room_key = rw (length_is, good_is, opened-same bgf bgf_blind c)

  -- a message fits under both or under none
  pub fits_same : (decoder : Decoder) → BlindDecoder decoder → (public c m : List ℕ)
      → Fits decoder (level_of level) public key' c m ↔ Fits decoder (level_of level) public key c m
  unfolding turned_pair turned
  fits_same decoder blind public c m = (
    λ fits. record { message = fits.message; wraps = fits.wraps; decodes = sym fails ∙ fits.decodes; finds = sym found ∙ fits.finds },
    λ fits. record { message = fits.message; wraps = fits.wraps; decodes = fails ∙ fits.decodes; finds = found ∙ fits.finds },
  )
    where
      fails : failed decoder (level_of level) (secret (level_of level) key') (syndrome_of (level_of level) key' c) ≡ failed decoder (level_of level) (secret (level_of level) key) (syndrome_of (level_of level) key c)
      fails = rw (secret_is, syndrome_of_is c) (failed_same decoder blind (level_of level) (r_pos level) k (secret (level_of level) key) (syndrome_of (level_of level) key c))

      found : decoder (level_of level) (secret (level_of level) key') (syndrome_of (level_of level) key' c) ≡ decoder (level_of level) (secret (level_of level) key) (syndrome_of (level_of level) key c)
      found = rw (secret_is, syndrome_of_is c) (blind (level_of level) (r_pos level) k (secret (level_of level) key) (syndrome_of (level_of level) key c))

  -- "Rotations by k and then l equal one by (k + l) mod r"
  pub rotates_on : (j : ℕ) → j < (level_of level).r → (n : ℕ) → rotate_key_says level j key' n ≡ rotate_key_says level ((k + j) % (level_of level).r) key n
  unfolding rotate_key_says rotate_key_reasons
  rotates_on j below n =
      let one = lt-leb _ _ below in
      let two = lt-leb _ _ (mod-lt (k + j) (r_pos level)) in
      let value = ap (rotated (level_of level) j) key_is ∙ Keys.rotated-rotated level key is.good_positions k j in
      rw (length_is, good_is, value, one, two)

-- so a pair from our own key making keeps its public key, byte for byte
pub keeps_public : (level k : ℕ) (seed public private private' : List ℕ) (room : ℕ) → FromKeyMaking level seed public private
    → rotate_key_says level k private room ≡ gives 0 (private' ∷ []) → bytes_of (level_of level).r (public_for (level_of level) private') ≡ public
unfolding public_for public_of
keeps_public level k seed public private private' room pair says =
    let l = level_of level in
    let made = made_of level seed public private pair in
    let first = h0_half l seed made.enough in
    let second = h1_half l seed made.enough in
    let halves : secret l private ≡ record { half0 = h0_of l seed; half1 = h1_of l seed } =
    rw made.private_is (secret_back l (h0_of l seed) (h1_of l seed) _ first.weighs second.weighs first.inside second.inside) in
    ap (bytes_of l.r) (same_public level k private private' room says) ∙ rw (halves, made.public_is)

-- by 0 it is the key itself, byte for byte
pub rotates_none : (level : ℕ) (key key' : List ℕ) (room : ℕ) → Below 8 key → rotate_key_says level 0 key room ≡ gives 0 (key' ∷ []) → key' ≡ key
rotates_none level key key' room small says =
    let clear = is level 0 key key' room says in
    key_is level 0 key key' room says ∙ Keys.rotated-none level key clear.good_positions small clear.key_size

-- so r - k is the way back
pub rotates_back : (level k : ℕ) (key key' : List ℕ) (room : ℕ) → Below 8 key → rotate_key_says level k key room ≡ gives 0 (key' ∷ []) → 0 < k
    → rotate_key_says level ((level_of level).r - k) key' room ≡ gives 0 (key ∷ [])
unfolding rotate_key_says
rotates_back level k key key' room small says some =
    let r = (level_of level).r in
    let clear = is level k key key' room says in
    let whole : k + (r - k) ≡ r = omega (arith, clear.within) in
    let none : (k + (r - k)) % r ≡ 0 = ap (λ (n : ℕ). n % r) whole ∙ mod_self r in
    rotates_on level k key key' room says (r - k) (omega (arith, clear.within)) room
    ∙ ap (λ (n : ℕ). rotate_key_says level n key room) none
    ∙ done _ _ (rotate-none (record {
      level_known = clear.level_known;
      key_size = clear.key_size;
      room_is = clear.room_is;
      good_positions = clear.good_positions;
      within = r_pos level;
    }))
    ∙ ap (λ (x : List ℕ). gives 0 (x ∷ [])) (Keys.rotated-none level key clear.good_positions small clear.key_size)
