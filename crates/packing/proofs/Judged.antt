-- What it says that a judge finds nothing, in both directions. Assumes nothing.
use mathlib.Core.Path.{◌≡◌}
use mathlib.Core.Bool.{true, false}
use mathlib.Core.List.{List}
use Prim.Native.Nat.{ℕ}
use borrow.Author.Tests.{eq-eqb, not-false}
use lib.Dec.{lit<}
use lib.ListN.{length}
use Rattle.hashing.specs.Answers.{first_of, differs}
use Rattle.hashing.proofs.Answers.{Numbered, agree, clear}
use Rattle.ring.specs.Levels.{known, level_of, private_bytes}
use Rattle.ring.proofs.Bools.{both_false}
use Rattle.exchange.specs.decoder.PrivateKey.{good_key}
use Rattle.packing.specs.Packing.{packed_bytes, padded}
use Rattle.packing.specs.Promises.{pack_reasons, unpack_reasons}

-- packing
pub record PackClear (level : ℕ) (key : List ℕ) (room : ℕ) : Type 0 where
  pub level_known : known level ≡ true
  pub key_size : length key ≡ private_bytes (level_of level)
  pub room_is : room ≡ packed_bytes (level_of level)
  pub good_positions : good_key (level_of level) key ≡ true

module _ {level : ℕ} {key : List ℕ} {room : ℕ} where
  pub pack_clear : first_of (pack_reasons level key room) ≡ 0 → PackClear level key room
  unfolding pack_reasons
  pack_clear none =
      let first = clear _ _ (lit< tt) none in
      let second = clear _ _ (lit< tt) first.1 in
      let sizes = both_false _ _ second.0 in
      record {
        level_known = not-false _ first.0;
        key_size = agree _ _ sizes.0;
        room_is = agree _ _ sizes.1;
        good_positions = not-false _ (clear _ _ (lit< tt) second.1).0;
      }

  pub pack_none : PackClear level key room → first_of (pack_reasons level key room) ≡ 0
  unfolding pack_reasons first_of differs
  pack_none is = rw (is.level_known, eq-eqb _ _ is.key_size, eq-eqb _ _ is.room_is, is.good_positions)

-- unpacking
pub record UnpackClear (level : ℕ) (bytes : List ℕ) (room : ℕ) : Type 0 where
  pub level_known : known level ≡ true
  pub packed_size : length bytes ≡ packed_bytes (level_of level)
  pub room_is : room ≡ private_bytes (level_of level)
  pub no_pad : padded (level_of level) bytes ≡ false

module _ {level : ℕ} {bytes : List ℕ} {room : ℕ} where
  pub unpack_clear : first_of (unpack_reasons level bytes room) ≡ 0 → UnpackClear level bytes room
  unfolding unpack_reasons
  unpack_clear none =
      let first = clear _ _ (lit< tt) none in
      let second = clear _ _ (lit< tt) first.1 in
      let sizes = both_false _ _ second.0 in
      record {
        level_known = not-false _ first.0;
        packed_size = agree _ _ sizes.0;
        room_is = agree _ _ sizes.1;
        no_pad = (clear _ _ (lit< tt) second.1).0;
      }

  pub unpack_none : UnpackClear level bytes room → first_of (unpack_reasons level bytes room) ≡ 0
  unfolding unpack_reasons first_of differs
  unpack_none is = rw (is.level_known, eq-eqb _ _ is.packed_size, eq-eqb _ _ is.room_is, is.no_pad)

pub unpack_numbered : (level : ℕ) (bytes : List ℕ) (room : ℕ) → Numbered (unpack_reasons level bytes room)
unfolding unpack_reasons
unpack_numbered level bytes room = (lit< tt, (lit< tt, (lit< tt, tt)))
