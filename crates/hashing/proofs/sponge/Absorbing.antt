-- What more bytes do to a running hash, over any rate: they go into the open block, and a full block is permuted. Assumes nothing.
use mathlib.Core.Path.{◌≡◌, refl, sym, ap, ap₂, ◌∙◌}
use mathlib.Core.List.{List, [], ◌∷◌, ◌++◌}
use Prim.Native.Nat.{ℕ, zero, suc, ◌+◌, ◌*◌, ◌/◌, ◌%◌, ◌^◌, ◌≤◌, ◌<◌}
use native.Mathlib.Nat.{add-zero, zero-add, suc-mul, le_of_eq, mod-lt, div-add-mod', mul-div_cancel, mul-mod_left}
use native.Mathlib.Decide.{dec_lt}
use native.Mathlib.Omega.{arith}
use lib.Arith.{digits_div, digits_mod}
use lib.Bits.{bit_xor, xor_zero_r}
use lib.ListN.{length, get_or, set, drop, length-append, length-take, length-drop, drop_of_length-le}
use lib.Seq.{set-get_or, set-set, set_out, get_or-set_same, take-nil, take_all, take-append-le, drop-append-le}
use Rattle.hashing.specs.declared.sponge.Sponge.{Sponge}
use Rattle.hashing.specs.Keccak.{keccak_f}
use Rattle.hashing.specs.Lists.{tab}
use Rattle.hashing.specs.inner.Parts.{lane_of}
use Rattle.hashing.specs.inner.Running.{running}
use Rattle.hashing.proofs.Lists.{length-tab}
use Rattle.hashing.proofs.Words.{xor_assoc}
use Rattle.hashing.specs.Sponge.{add_byte, add_bytes, block, absorbed}

-- a hash by its fields
abbrev pub held : List ℕ → ℕ → Sponge
held lanes place = record { lanes = lanes; place = place }

pub add_bytes-append : (S : List ℕ) (k : ℕ) (P Q : List ℕ)
    → add_bytes S k (P ++ Q) ≡ add_bytes (add_bytes S k P) (k + length P) Q
unfolding add_bytes
add_bytes-append S k [] Q = rw add-zero
add_bytes-append S k (b ∷ P) Q =
    let next : suc k + length P ≡ k + suc (length P) = omega arith in
    rw (← next) (add_bytes-append (add_byte S k b) (suc k) P Q)

-- the whole blocks of M are blocks of M ++ D, and the block in which M ends goes on with D
module _ (rate : ℕ) (M D : List ℕ) where
  block_before : (i : ℕ) → i * rate + rate ≤ length M → block rate (M ++ D) i ≡ block rate M i
  unfolding block
  block_before i h =
      let at : i * rate ≤ length M = omega arith in
      let whole : rate ≤ length (drop (i * rate) M) = simp length-drop (omega arith) in
      rw (drop-append-le (i * rate) M D at, take-append-le rate (drop (i * rate) M) D whole)

  block_last : (i : ℕ) → i * rate ≤ length M → length M + length D ≤ i * rate + rate
      → block rate (M ++ D) i ≡ block rate M i ++ D
  unfolding block
  block_last i at h =
      let one : length (drop (i * rate) M) ≤ rate = simp length-drop (omega arith) in
      let both : length (drop (i * rate) M ++ D) ≤ rate = simp (length-append, length-drop) (omega arith) in
      rw (drop-append-le (i * rate) M D at, take_all rate (drop (i * rate) M ++ D) both, take_all rate (drop (i * rate) M) one)

  absorbed_before : (n : ℕ) → n * rate ≤ length M → absorbed rate (M ++ D) n ≡ absorbed rate M n
  unfolding absorbed
  absorbed_before zero h = refl
  absorbed_before (suc n) h =
      let more : n * rate + rate ≤ length M = rw suc-mul at h in
      rw (absorbed_before n (omega arith), block_before n more)

length_open : (rate : ℕ) → 0 < rate → (M : List ℕ) → length (block rate M (length M / rate)) ≡ length M % rate
unfolding block
length_open rate pos M =
    simp (length-take, length-drop) (omega (arith, div-add-mod' (length M) rate, mod-lt (length M) pos))

module _ (rate : ℕ) (pos : 0 < rate) (M D : List ℕ) where
  size : length (M ++ D) ≡ length M / rate * rate + (length M % rate + length D)
  size = length-append M D ∙ omega (arith, div-add-mod' (length M) rate)

  -- D goes into the block that M leaves open
  opened : length M % rate + length D ≤ rate
      → add_bytes (absorbed rate (M ++ D) (length M / rate)) 0 (block rate (M ++ D) (length M / rate))
      ≡ add_bytes (running rate M).lanes (length M % rate) D
  unfolding running
  opened h =
      let cut = div-add-mod' (length M) rate in
      let at : length M / rate * rate ≤ length M = omega arith in
      let room : length M + length D ≤ length M / rate * rate + rate = omega arith in
      rw (
        absorbed_before rate M D (length M / rate) at,
        block_last rate M D (length M / rate) at room,
        add_bytes-append,
        zero-add,
        length_open rate pos M,
      )

  running_within : length M % rate + length D < rate
      → running rate (M ++ D) ≡ held (add_bytes (running rate M).lanes (length M % rate) D) (length M % rate + length D)
  unfolding running
  running_within h =
      let blocks : length (M ++ D) / rate ≡ length M / rate = rw size (digits_div (length M / rate) h) in
      let past : length (M ++ D) % rate ≡ length M % rate + length D = rw size (digits_mod (length M / rate) h) in
      rw (blocks, past, opened (omega arith))

  -- D fills that block
  module _ (fills : length M % rate + length D ≡ rate) where
    whole : length (M ++ D) ≡ suc (length M / rate) * rate
    whole = rw (size, fills, suc-mul)

    blocks : length (M ++ D) / rate ≡ suc (length M / rate)
    blocks = rw whole (mul-div_cancel (suc (length M / rate)) pos)

    pub absorbed_full : absorbed rate (M ++ D) (length (M ++ D) / rate)
        ≡ keccak_f (add_bytes (running rate M).lanes (length M % rate) D)
    unfolding absorbed
    absorbed_full = rw blocks (ap keccak_f (opened (le_of_eq fills)))

    running_full : running rate (M ++ D) ≡ held (keccak_f (add_bytes (running rate M).lanes (length M % rate) D)) 0
    unfolding running block add_bytes
    running_full =
        let past : length (M ++ D) % rate ≡ 0 = rw whole (mul-mod_left (suc (length M / rate)) rate) in
        let all : length (M ++ D) ≤ length (M ++ D) / rate * rate = rw blocks (le_of_eq whole) in
        rw (past, drop_of_length-le (M ++ D) all, take-nil {A = ℕ} rate, absorbed_full)

-- more bytes
module _ (rate : ℕ) (pos : 0 < rate) (M D : List ℕ) {s : Sponge} (so_far : s ≡ running rate M) where
  more_within : s.place + length D < rate
      → held (add_bytes s.lanes s.place D) (s.place + length D) ≡ running rate (M ++ D)
  unfolding running
  more_within h = rw so_far (sym (running_within rate pos M D (rw so_far at h)))

  more_full : s.place + length D ≡ rate → held (keccak_f (add_bytes s.lanes s.place D)) 0 ≡ running rate (M ++ D)
  unfolding running
  more_full h = rw so_far (sym (running_full rate pos M D (rw so_far at h)))

-- bytes that are added within one lane are one number that is added to it
lane-added : (S : List ℕ) (k n : ℕ) (b : ℕ → ℕ) → k % 8 + n ≤ 8
    → add_bytes S k (tab n b) ≡ set S (k / 8) (bit_xor (get_or S (k / 8) 0) (lane_of (k % 8) n b))
unfolding add_byte add_bytes lane_of tab
lane-added S k zero b fits = sym (ap (set S (k / 8)) (xor_zero_r (get_or S (k / 8) 0)) ∙ set-get_or S (k / 8) 0)
lane-added S k (suc n) b fits =
    add_bytes-append S k (tab n b) (b n ∷ [])
    ∙ ap₂ (λ (S : List ℕ) (m : ℕ). add_byte S (k + m) (b n)) (lane-added S k n b (omega arith)) (length-tab n b) ∙ once
  where
    q : ℕ
    q = k / 8

    so_far : ℕ
    so_far = bit_xor (get_or S q 0) (lane_of (k % 8) n b)

    last : ℕ
    last = b n * 2 ^ (8 * (k % 8 + n))

    twice : Dec (q < length S) → set S q (bit_xor (get_or (set S q so_far) q 0) last) ≡ set S q (bit_xor (get_or S q 0) (bit_xor (lane_of (k % 8) n b) last))
    twice (yes room) =
        rw (get_or-set_same S q so_far 0 room) (ap (set S q) (xor_assoc (get_or S q 0) (lane_of (k % 8) n b) last))
    twice (no out) = set_out S q _ (omega arith) ∙ sym (set_out S q _ (omega arith))

    once : add_byte (set S q so_far) (k + n) (b n) ≡ set S q (bit_xor (get_or S q 0) (bit_xor (lane_of (k % 8) n b) last))
    once =
        let same : (k + n) / 8 ≡ q = omega arith in
        let place : (k + n) % 8 ≡ k % 8 + n = omega arith in
        rw (same, place, set-set) (twice (dec_lt q (length S)))

-- as many as go into one lane
abbrev pub added : ℕ → (ℕ → ℕ) → Sponge → List ℕ
added n b s = set s.lanes (s.place / 8) (bit_xor (get_or s.lanes (s.place / 8) 0) (lane_of (s.place % 8) n b))

module _ (rate : ℕ) (pos : 0 < rate) (M : List ℕ) (n : ℕ) (b : ℕ → ℕ) {s : Sponge} (so_far : s ≡ running rate M)
    (fits : s.place % 8 + n ≤ 8) where
  pub part_within : s.place + n < rate → held (added n b s) (s.place + n) ≡ running rate (M ++ tab n b)
  part_within h =
      rw (← lane-added s.lanes s.place n b fits)
      (rw (length-tab n b) at (more_within rate pos M (tab n b) so_far (rw (length-tab n b) h)))

  pub part_full : s.place + n ≡ rate → held (keccak_f (added n b s)) 0 ≡ running rate (M ++ tab n b)
  part_full h =
      rw (← lane-added s.lanes s.place n b fits) (more_full rate pos M (tab n b) so_far (rw (length-tab n b) h))
