-- From the key exchange to the map: with demand 3, what the phone writes under its session key goes in at the
-- controller that opened the ciphertext. Assumes nothing.
use mathlib.Core.Path.{◌≡◌, sym, ◌∙◌}
use mathlib.Core.List.{List, ◌++◌}
use Prim.Native.Nat.{ℕ, ◌^◌, ◌<◌}
use lib.ListN.{length}
use Rattle.hashing.proofs.Answers.{one_output, two_outputs}
use Rattle.ring.specs.Levels.{level_of, message_bytes}
use Rattle.exchange.specs.Fits.{FromKeyMaking, WellFormed, Fits}
use Rattle.exchange.specs.Promises.{WrapPromise, OpenPromise}
use Rattle.exchange.specs.decoder.Decoder.{bgf}
use Rattle.exchange.proofs.Pairs.{demand_3}
use Rattle.maps.specs.Promises.{WriteMapPromise, AcceptMapPromise}
use Rattle.maps.specs.Writes.{map_bytes, record_bytes}
use Rattle.maps.proofs.Acceptance.{written_goes_in}

-- the keys of both ends, of a message that fits
module _ (level : ℕ) (seed public private : List ℕ) (pair : FromKeyMaking level seed public private)
    (c : List ℕ) (well_formed : WellFormed (level_of level) c) (m : List ℕ) (fits : Fits bgf (level_of level) public private c m) where
  same_key : {w o : ℕ} {sent phone controller : List ℕ} → WrapPromise level public m (length c) message_bytes w sent phone
      → OpenPromise level private c message_bytes o controller → controller ≡ phone
  same_key wraps opens =
      let both = (demand_3 level seed public private c pair well_formed).if_one_fits m fits in
      (one_output opens (sym both.1)).1 ∙ sym (two_outputs wraps (sym both.0)).2

  pub from_exchange : (phone controller : List ℕ) {w o : ℕ} {sent : List ℕ} → WrapPromise level public m (length c) message_bytes w sent phone
      → OpenPromise level private c message_bytes o controller
      → (kart counter : ℕ) (map bytes after old : List ℕ) (last : ℕ) {r next : ℕ} {stored : List ℕ}
      → kart < 2 ^ 32 → counter < 2 ^ 32 → length old ≡ map_bytes → last < counter
      → WriteMapPromise level phone kart counter map record_bytes 0 bytes
      → AcceptMapPromise level controller kart (bytes ++ after) old last r stored next → (r ≡ 0) × (stored ≡ map) × (next ≡ counter)
  from_exchange phone controller wraps opens kart counter map bytes after old last kart_fits counter_fits old_size higher writes accepts =
      written_goes_in level phone kart counter map record_bytes writes after old last kart_fits counter_fits old_size higher
      (rw (same_key wraps opens) at accepts)
