-- "Reading what was written gives the same private key, and each key has one packed form": of what packing and
-- unpacking promise. Assumes nothing.
use mathlib.Core.Path.{◌≡◌, refl, sym, ap, ◌∙◌}
use mathlib.Core.Bool.{true, not}
use mathlib.Core.List.{List, [], ◌∷◌}
use Prim.Native.Nat.{ℕ, ◌-◌, ◌*◌}
use native.Mathlib.Omega.{arith}
use borrow.Author.Tests.{not-false}
use lib.Dec.{lit<}
use Rattle.hashing.specs.Answers.Outcome.{gives}
use Rattle.hashing.proofs.Answers.{done, settled, clear, all_clear, last_clear, one_output}
use Rattle.ring.specs.Bytes.{byte_length}
use Rattle.ring.specs.Levels.{Level, known, level_of, position_bits, private_bytes, level1, level3, level5}
use Rattle.ring.specs.Chain.{top, halvings}
use Rattle.ring.proofs.Layouts.{Below}
use Rattle.ring.proofs.Levels.{width}
use Rattle.exchange.specs.Fits.{Bytes}
use Rattle.exchange.specs.decoder.PrivateKey.{good_key}
use Rattle.packing.specs.Packing.{packed_bits, packed_bytes, packed, unpacked}
use Rattle.packing.specs.Promises.{pack_says, PackPromise, unpack_says, UnpackPromise}
use Rattle.packing.proofs.Judged.{pack_none, unpack_clear, unpack_none, unpack_numbered}
use Rattle.packing.proofs.Keys.{packed-length, packed_pad, unpacked-packed, unpacked-length, packed-unpacked}

-- a private key: bytes of a known level's length, with positions that rise below r
pub record PrivateKey (level : ℕ) (key : List ℕ) : Type 0 where
  pub level_known : known level ≡ true
  pub bytes : Bytes (private_bytes (level_of level)) key
  pub good_positions : good_key (level_of level) key ≡ true

pub packs : (level : ℕ) (key : List ℕ) → PrivateKey level key
    → pack_says level key (packed_bytes (level_of level)) ≡ gives 0 (packed (level_of level) key ∷ [])
unfolding pack_says
packs level key is =
    done _ _
    (pack_none (record { level_known = is.level_known; key_size = is.bytes.size; room_is = refl; good_positions = is.good_positions }))

-- "Reading what was written gives the same private key"
pub unpacks_packed : (level : ℕ) (key : List ℕ) → PrivateKey level key
    → unpack_says level (packed (level_of level) key) (private_bytes (level_of level)) ≡ gives 0 (key ∷ [])
unfolding unpack_says
unpacks_packed level key is =
    let l = level_of level in
    let back = unpacked-packed l (width level).holds key is.bytes is.good_positions in
    let none = unpack_none (record {
      level_known = is.level_known;
      packed_size = packed-length l key is.bytes.size;
      room_is = refl;
      no_pad = packed_pad l key is.bytes.size;
    }) in
    rw back
    (done _ _ (last_clear _ (record { applies = _; number = 4 }) (unpack_numbered level _ _) none (ap not is.good_positions)))

-- what unpacking answers 0 for is the packed form of what it gives
module _ (level : ℕ) (key bytes : List ℕ) (room : ℕ) (small : Below 8 bytes) (says : unpack_says level bytes room ≡ gives 0 (key ∷ [])) where
  pub packs_unpacked : (bytes ≡ packed (level_of level) key) × (pack_says level key (packed_bytes (level_of level)) ≡ gives 0 (bytes ∷ []))
  unfolding unpack_says pack_says
  packs_unpacked =
      let l = level_of level in
      let all = settled _ _ says in
      let reasons = all_clear _ _ (unpack_numbered level bytes room) all.0 in
      let is = unpack_clear reasons.0 in
      let good = not-false _ (clear _ _ (lit< tt) reasons.1).0 in
      let key_is : key ≡ unpacked l bytes = cc in
      let again = packed-unpacked l bytes is.packed_size small is.no_pad in
      let size = is.packed_size in
      rw key_is (
        sym again,
        done _ _
            (pack_none (record {
              level_known = is.level_known;
              key_size = unpacked-length l bytes (omega arith);
              room_is = refl;
              good_positions = good;
            }))
            ∙ ap (λ (p : List ℕ). gives 0 (p ∷ [])) again,
      )

-- "each key has one packed form"
pub one_form : (level : ℕ) (key a b : List ℕ) (room : ℕ) → Below 8 a → Below 8 b
    → unpack_says level a room ≡ gives 0 (key ∷ []) → unpack_says level b room ≡ gives 0 (key ∷ []) → a ≡ b
one_form level key a b room small-a small_b p q =
    (packs_unpacked level key a room small-a p).0 ∙ sym (packs_unpacked level key b room small_b q).0

-- a promise admits just one outcome
pub pack_just_one : (level : ℕ) (key : List ℕ) (room : ℕ) {r r' : ℕ} {out out' : List ℕ}
    → PackPromise level key room r out → PackPromise level key room r' out' → (r ≡ r') × (out ≡ out')
pack_just_one level key room = one_output

pub unpack_just_one : (level : ℕ) (bytes : List ℕ) (room : ℕ) {r r' : ℕ} {out out' : List ℕ}
    → UnpackPromise level bytes room r out → UnpackPromise level bytes room r' out' → (r ≡ r') × (out ≡ out')
unpack_just_one level bytes room = one_output

-- "14 bits per position at Level 1 and 15 at Level 3. .. That is 281 and 419 bytes, with 4 and 6 pad bits.", and with D "313 and 451 packed"
pub computed : Level → List ℕ
computed l = position_bits l.r ∷ packed_bytes l ∷ (8 * byte_length (packed_bits l) - packed_bits l) ∷ []

pub computed1 : computed level1 ≡ 14 ∷ 313 ∷ 4 ∷ []
unfolding computed level1 top halvings
computed1 = refl

pub computed3 : computed level3 ≡ 15 ∷ 451 ∷ 6 ∷ []
unfolding computed level3 top halvings
computed3 = refl

-- CR 12: "packed 612 too"
pub computed5 : computed level5 ≡ 16 ∷ 612 ∷ 0 ∷ []
unfolding computed level5 top halvings
computed5 = refl
