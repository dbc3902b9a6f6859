-- What is squeezed, byte by byte, and what a byte more does to the hash. Assumes nothing.
use mathlib.Core.Path.{◌≡◌, ap, ◌∙◌}
use mathlib.Core.List.{List, ◌++◌}
use Prim.Native.Nat.{ℕ, zero, suc, ◌+◌, ◌-◌, ◌*◌, ◌/◌, ◌%◌, ◌^◌, ◌≤◌, ◌<◌}
use native.Mathlib.Nat.{add-suc, zero-mul, zero-div, zero-mod, suc-mul, mod-lt, div-add-mod', mul-div_cancel, mul-mod_left}
use native.Mathlib.Decide.{dec_lt}
use native.Mathlib.Omega.{arith}
use lib.Arith.{digits_div, digits_mod}
use lib.Dec.{lit<}
use lib.ListN.{length, get_or, take, drop, get_or-eq_default}
use Rattle.hashing.specs.declared.sponge.Sponge.{Sponge}
use Rattle.hashing.specs.Keccak.{keccak_f}
use Rattle.hashing.specs.Lists.{tab}
use Rattle.hashing.specs.inner.Running.{drawn}
use Rattle.hashing.specs.Sponge.{byte_of, soaked, permuted, squeezed, sponge, shake256, sha3_384}
use Rattle.hashing.proofs.Lists.{tab_ext, length-tab, get_or-tab}
use Rattle.hashing.proofs.Lists.{tab-append, take-tab, drop-tab}
use Rattle.hashing.proofs.sponge.Absorbing.{held}

-- byte k of Z: byte k mod r of block k div r
unfoldable pub byte_at : ℕ → List ℕ → ℕ → ℕ
byte_at rate S k = byte_of (permuted (k / rate) S) (k % rate)

-- byte k of what follows the first n bytes
abbrev pub following : ℕ → ℕ → List ℕ → ℕ → ℕ → ℕ
following rate suffix M n k = byte_at rate (soaked rate suffix M) (n + k)

-- n bytes are squeezed, and the block of the next one is at hand
abbrev pub ready : ℕ → ℕ → List ℕ → ℕ → Sponge
ready rate suffix M n = held (permuted (n / rate) (soaked rate suffix M)) (n % rate)

module _ (rate : ℕ) (pos : 0 < rate) where
  squeezed_at : (S : List ℕ) (n : ℕ) → squeezed rate S n ≡ tab (n * rate) (byte_at rate S)
  unfolding tab squeezed byte_at
  squeezed_at S zero = rw zero-mul
  squeezed_at S (suc n) =
      rw (suc-mul n rate, tab-append (n * rate) rate (byte_at rate S), squeezed_at S n)
      (ap (λ (Z : List ℕ). tab (n * rate) (byte_at rate S) ++ Z)
      (tab_ext rate (byte_of (permuted n S)) (λ k. byte_at rate S (n * rate + k)) (λ k h. rw (digits_div n h, digits_mod n h))))

  sponge_at : (suffix : ℕ) (M : List ℕ) (n : ℕ) → sponge rate suffix M n ≡ tab n (byte_at rate (soaked rate suffix M))
  unfolding sponge
  sponge_at suffix M n =
      let S = soaked rate suffix M in
      let blocks = (n + rate - 1) / rate in
      let enough : n ≤ blocks * rate = omega (arith, div-add-mod' (n + rate - 1) rate, mod-lt (n + rate - 1) pos) in
      ap (take n) (squeezed_at S blocks) ∙ take-tab n (blocks * rate) (byte_at rate S) enough

  -- of an output, for the callers too: its length, its first bytes, those after the first n, and that they are bytes
  pub sponge-length : (suffix : ℕ) (M : List ℕ) (n : ℕ) → length (sponge rate suffix M n) ≡ n
  sponge-length suffix M n = rw (sponge_at suffix M n) (length-tab n (byte_at rate (soaked rate suffix M)))

  pub sponge_first : (suffix : ℕ) (M : List ℕ) (n m : ℕ) → n ≤ m → take n (sponge rate suffix M m) ≡ sponge rate suffix M n
  sponge_first suffix M n m h = rw (sponge_at suffix M m, sponge_at suffix M n) (take-tab n m (byte_at rate (soaked rate suffix M)) h)

  pub sponge-next : (suffix : ℕ) (M : List ℕ) (n m : ℕ) → drop n (sponge rate suffix M (n + m)) ≡ tab m (following rate suffix M n)
  sponge-next suffix M n m = rw (sponge_at suffix M (n + m)) (drop-tab n m (byte_at rate (soaked rate suffix M)))

  pub sponge_bytes : (suffix : ℕ) (M : List ℕ) (n i : ℕ) → get_or (sponge rate suffix M n) i 0 < 2 ^ 8
  unfolding byte_at byte_of
  sponge_bytes suffix M n i = rw (sponge_at suffix M n) (go (dec_lt i n))
    where
      Z : List ℕ
      Z = tab n (byte_at rate (soaked rate suffix M))

      go : Dec (i < n) → get_or Z i 0 < 2 ^ 8
      go (yes below) = rw (get_or-tab n (byte_at rate (soaked rate suffix M)) 0 i below) (mod-lt _ (lit< tt))
      go (no past) =
          let out : length Z ≤ i = rw (length-tab n (byte_at rate (soaked rate suffix M))) (omega arith) in
          rw (get_or-eq_default Z 0 out) (lit< tt)

  -- where byte k + 1 is, by where byte k is
  next_within : (k : ℕ) → suc (k % rate) < rate → (suc k / rate ≡ k / rate) × (suc k % rate ≡ suc (k % rate))
  next_within k h =
      let size : suc k ≡ k / rate * rate + suc (k % rate) = omega (arith, div-add-mod' k rate) in
      rw size (digits_div (k / rate) h, digits_mod (k / rate) h)

  next_full : (k : ℕ) → suc (k % rate) ≡ rate → (suc k / rate ≡ suc (k / rate)) × (suc k % rate ≡ 0)
  next_full k h =
      let size : suc k ≡ suc (k / rate) * rate = rw suc-mul (omega (arith, div-add-mod' k rate)) in
      rw size (mul-div_cancel (suc (k / rate)) pos, mul-mod_left (suc (k / rate)) rate)

  pub same_block : (suffix : ℕ) (M : List ℕ) (n : ℕ) {s : Sponge} → s ≡ drawn rate suffix M n → s.place < rate
      → s ≡ ready rate suffix M n
  unfolding drawn permuted
  same_block suffix M zero e h = rw (zero-div, zero-mod) e
  same_block suffix M (suc k) e h = let next = next_within k (rw e at h) in rw (next.0, next.1) e

  pub next-block : (suffix : ℕ) (M : List ℕ) (n : ℕ) {s : Sponge} → s ≡ drawn rate suffix M n → s.place ≡ rate
      → held (keccak_f s.lanes) 0 ≡ ready rate suffix M n
  unfolding drawn permuted
  next-block suffix M zero e h = let none : 0 ≡ rate = rw e at h in absurd (omega arith)
  next-block suffix M (suc k) e h = let next = next_full k (rw e at h) in rw (next.0, next.1, e)

-- with its block at hand, the next bytes of the block are squeezed
module _ (rate : ℕ) (suffix : ℕ) (M : List ℕ) (n : ℕ) {s : Sponge} (at-hand : s ≡ ready rate suffix M n) where
  within : (m : ℕ) → s.place + m < rate → ((n + m) / rate ≡ n / rate) × ((n + m) % rate ≡ s.place + m)
  within m h =
      let here : s.place ≡ n % rate = ap (λ (s : Sponge). s.place) at-hand in
      let size : n + m ≡ n / rate * rate + (s.place + m) = omega (arith, div-add-mod' n rate) in
      rw size (digits_div (n / rate) h, digits_mod (n / rate) h)

  pub ready_byte : (m : ℕ) → s.place + m < rate → s.place % 8 + m < 8
      → get_or s.lanes (s.place / 8) 0 / 2 ^ (8 * (s.place % 8 + m)) % 256 ≡ byte_at rate (soaked rate suffix M) (n + m)
  unfolding byte_at byte_of
  ready_byte m h fits =
      let lane : (s.place + m) / 8 ≡ s.place / 8 = omega arith in
      let place : (s.place + m) % 8 ≡ s.place % 8 + m = omega arith in
      rw ((within m h).0, (within m h).1, lane, place) (ap (λ (t : Sponge). get_or t.lanes (s.place / 8) 0 / 2 ^ (8 * (s.place % 8 + m)) % 256) at-hand)

  pub ready_drawn : (m : ℕ) → 0 < m → s.place + m ≤ rate → held s.lanes (s.place + m) ≡ drawn rate suffix M (n + m)
  unfolding drawn
  ready_drawn zero none h = absurd (omega arith)
  ready_drawn (suc m) some h =
      let at = within m (omega arith) in
      rw (add-suc n m, at.0, at.1, add-suc s.place m) (ap (λ (t : Sponge). held t.lanes (suc (s.place + m))) at-hand)

-- the two hashes
pub shake256-length : (M : List ℕ) (n : ℕ) → length (shake256 M n) ≡ n
unfolding shake256
shake256-length = sponge-length 136 (lit< tt) 0x1f

pub sha3_384-length : (M : List ℕ) → length (sha3_384 M) ≡ 48
unfolding sha3_384
sha3_384-length M = sponge-length 104 (lit< tt) 0x06 M 48
