-- What the padding does to a running hash: it adds its suffix and its last bit, and what lies between adds nothing. Assumes nothing.
use mathlib.Core.Path.{◌≡◌, refl, ap, ◌∙◌}
use mathlib.Core.List.{List, [], ◌∷◌}
use Prim.Native.Nat.{ℕ, zero, suc, ◌+◌, ◌-◌, ◌*◌, ◌/◌, ◌%◌, ◌^◌, ◌≤◌, ◌<◌}
use native.Mathlib.Nat.{add-zero, add_comm, zero-mul, mod-lt}
use native.Mathlib.Numerals.{add-one}
use native.Mathlib.Omega.{arith}
use lib.Bits.{bit_xor, xor_zero_r, xor_comm, xor_shifted}
use lib.ListN.{length, get_or, replicate, length-append, length-set, length-replicate}
use lib.Seq.{set-get_or, set-set, get_or-set_same}
use Rattle.hashing.specs.declared.sponge.Sponge.{Sponge}
use Rattle.hashing.specs.Keccak.{keccak_f}
use Rattle.hashing.specs.inner.Running.{running, drawn}
use Rattle.hashing.specs.Sponge.{add_byte, add_bytes, padding, padded, block, absorbed, soaked}
use Rattle.hashing.proofs.keccak.Laws.{length-keccak_f}
use Rattle.hashing.proofs.Words.{xor_assoc, xor_scaled}
use Rattle.hashing.proofs.sponge.Absorbing.{held, add_bytes-append, absorbed_full}

add_byte_zero : (S : List ℕ) (k : ℕ) → add_byte S k 0 ≡ S
unfolding add_byte
add_byte_zero S k = rw (zero-mul, xor_zero_r) (set-get_or S (k / 8) 0)

add_bytes-zeros : (S : List ℕ) (k q : ℕ) → add_bytes S k (replicate q 0) ≡ S
unfolding add_bytes
add_bytes-zeros S k zero = refl
add_bytes-zeros S k (suc q) =
    ap (λ (T : List ℕ). add_bytes T (suc k) (replicate q 0)) (add_byte_zero S k) ∙ add_bytes-zeros S (suc k) q

add_byte-twice : (S : List ℕ) (k a b : ℕ) → k / 8 < length S → add_byte (add_byte S k a) k b ≡ add_byte S k (bit_xor a b)
unfolding add_byte
add_byte-twice S k a b h =
    let lane = bit_xor (get_or S (k / 8) 0) (a * 2 ^ (8 * (k % 8))) in
    rw (set-set, get_or-set_same S (k / 8) lane 0 h, xor_assoc, xor_scaled)

add_bytes-padding : (S : List ℕ) (k suffix q : ℕ) → suffix < 128 → k / 8 < length S
    → add_bytes S k (padding suffix (suc q)) ≡ add_byte (add_byte S k suffix) (k + q) 128
unfolding add_bytes padding
add_bytes-padding S k suffix zero small h =
    let both : bit_xor suffix 128 ≡ suffix + 128 = xor_comm suffix 128 ∙ xor_shifted 1 7 suffix small ∙ add_comm 128 suffix in
    rw (add-zero, add_byte-twice S k suffix 128 h, both)
add_bytes-padding S k suffix (suc q) small h =
    let next : suc k + q ≡ k + suc q = omega arith in
    rw (add_bytes-append, add_bytes-zeros, length-replicate {A = ℕ} q 0, next)

length-padding : (suffix q : ℕ) → length (padding suffix q) ≡ q
unfolding padding
length-padding suffix zero = refl
length-padding suffix (suc zero) = refl
length-padding suffix (suc (suc q)) =
    ap suc (length-append (replicate q 0) (128 ∷ []) ∙ simp length-replicate (add-one q))

length-add_bytes : (S : List ℕ) (k : ℕ) (P : List ℕ) → length (add_bytes S k P) ≡ length S
unfolding add_byte add_bytes
length-add_bytes S k [] = refl
length-add_bytes S k (b ∷ P) = length-add_bytes (add_byte S k b) (suc k) P ∙ simp length-set

length-absorbed : (rate : ℕ) (P : List ℕ) (n : ℕ) → length (absorbed rate P n) ≡ 25
unfolding absorbed
length-absorbed rate P zero = refl
length-absorbed rate P (suc n) = length-keccak_f (add_bytes (absorbed rate P n) 0 (block rate P n))

module _ (rate suffix : ℕ) (M : List ℕ) (pos : 0 < rate) (most : rate ≤ 200) (small : suffix < 128) where
  soaked_by : soaked rate suffix M
      ≡ keccak_f (add_byte (add_byte (running rate M).lanes (length M % rate) suffix) (rate - 1) 128)
  unfolding running soaked padded
  soaked_by =
      let within = mod-lt (length M) pos in
      let left : rate - length M % rate ≡ suc (rate - 1 - length M % rate) = omega arith in
      let last : length M % rate + (rate - 1 - length M % rate) ≡ rate - 1 = omega arith in
      let fills : length M % rate + length (padding suffix (rate - length M % rate)) ≡ rate = rw length-padding (omega arith) in
      let lane : length M % rate / 8 < length (running rate M).lanes = rw (length-add_bytes, length-absorbed) (omega arith) in
      absorbed_full rate pos M (padding suffix (rate - length M % rate)) fills
      ∙ rw (left, add_bytes-padding (running rate M).lanes (length M % rate) suffix (rate - 1 - length M % rate) small lane, last)

  pub padded-drawn : {s : Sponge} → s ≡ running rate M
      → held (keccak_f (add_byte (add_byte s.lanes s.place suffix) (rate - 1) 128)) 0 ≡ drawn rate suffix M 0
  unfolding running drawn
  padded-drawn so_far = rw (so_far, soaked_by)
