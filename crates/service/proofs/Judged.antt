-- What it says that the judge finds nothing, in both directions. Assumes nothing.
use mathlib.Core.Path.{◌≡◌}
use mathlib.Core.Bool.{true}
use mathlib.Core.List.{List}
use Prim.Native.Nat.{ℕ, ◌<◌}
use borrow.Author.Tests.{eq-eqb, not-false, leb-false, lt-leb}
use lib.Dec.{lit<}
use lib.ListN.{length}
use Rattle.hashing.specs.Answers.{first_of, differs}
use Rattle.hashing.proofs.Answers.{agree, clear}
use Rattle.ring.specs.Levels.{known, level_of, private_bytes}
use Rattle.ring.proofs.Bools.{both_false}
use Rattle.exchange.specs.decoder.PrivateKey.{good_key}
use Rattle.service.specs.Rotation.{rotate_key_reasons}

pub record RotateClear (level k : ℕ) (key : List ℕ) (room : ℕ) : Type 0 where
  pub level_known : known level ≡ true
  pub key_size : length key ≡ private_bytes (level_of level)
  pub room_is : room ≡ private_bytes (level_of level)
  pub good_positions : good_key (level_of level) key ≡ true
  pub within : k < (level_of level).r

module _ {level k : ℕ} {key : List ℕ} {room : ℕ} where
  pub rotate_clear : first_of (rotate_key_reasons level k key room) ≡ 0 → RotateClear level k key room
  unfolding rotate_key_reasons
  rotate_clear none =
      let first = clear _ _ (lit< tt) none in
      let second = clear _ _ (lit< tt) first.1 in
      let third = clear _ _ (lit< tt) second.1 in
      let sizes = both_false _ _ second.0 in
      record {
        level_known = not-false _ first.0;
        key_size = agree _ _ sizes.0;
        room_is = agree _ _ sizes.1;
        good_positions = not-false _ third.0;
        within = leb-false _ _ (clear _ _ (lit< tt) third.1).0;
      }

  pub rotate-none : RotateClear level k key room → first_of (rotate_key_reasons level k key room) ≡ 0
  unfolding rotate_key_reasons first_of differs
  rotate-none is =
      rw (is.level_known, eq-eqb _ _ is.key_size, eq-eqb _ _ is.room_is, is.good_positions, lt-leb _ _ is.within)
