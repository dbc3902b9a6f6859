-- `lay_word` goes byte by byte: before turn j the bits of j bytes are laid out.
use mathlib.Core.Path.{◌≡◌, ap, ◌∙◌}
use mathlib.Core.List.{List}
use mathlib.Core.Logic.{inl, inr, ⊎_elim}
use Prim.Native.Nat.{ℕ, ◌+◌, ◌-◌, ◌*◌, ◌/◌, ◌%◌, ◌^◌, ◌≤◌, ◌<◌}
use native.Mathlib.Decide.{dec_lt}
use native.Mathlib.Omega.{arith}
use lib.ListN.{length, get_or}
use lib.Seq.{sets}
use Rattle.hashing.specs.Lists.{tab, bit_at}
use Rattle.hashing.proofs.Lists.{length-tab}
use Rattle.ring.specs.Polynomials.{bit}
use Rattle.ring.proofs.unpack.Laws.{byte_bits, sets_in, sets_around}
use Rattle.ring.proofs.unpack.lay_word.Goals as goal

pub loop-j-preserved : goal.loop-j-preserved
loop-j-preserved c =
    let was = c.loop-j in
    let at = c.args.at in
    let put = c.put in
    let byte : ℕ → ℕ = λ m. c.digits.result / 2 ^ (8 * m) % 256 in (
      omega arith,
      put.auto.out ∙ was.invariant.1,
      (λ k below. ap (λ (l : List ℕ). get_or l (at + k) 0) put.ensures
          ∙ go was.out c.args.w at was.j byte (omega arith) was.invariant.2
          (λ m low. c.digits.ensures m low ∙ ap bit (byte_bits c.args.w was.j m low)) k below),
      λ k away. ap (λ (l : List ℕ). get_or l k 0) put.ensures
          ∙ sets_around (tab 8 byte) was.out (at + 8 * was.j) k
          (rw (length-tab 8 byte) (⊎_elim (λ low. inl (omega arith)) (λ past. inr (omega arith)) away))
          ∙ was.invariant.3 k (⊎_elim (λ low. inl low) (λ past. inr (omega arith)) away),
    )
  where
    -- eight bytes more
    go : (out : List ℕ) (w at j : ℕ) (f : ℕ → ℕ) → at + 8 * j + 8 ≤ length out
        → ((k : ℕ) → k < 8 * j → get_or out (at + k) 0 ≡ bit (bit_at w k)) → ((m : ℕ) → m < 8 → f m ≡ bit (bit_at w (8 * j + m)))
        → (k : ℕ) → k < 8 * (j + 1) → get_or (sets out (at + 8 * j) (tab 8 f)) (at + k) 0 ≡ bit (bit_at w k)
    go out w at j f room before eight k below = at_place (dec_lt k (8 * j))
      where
        at_place : Dec (k < 8 * j) → get_or (sets out (at + 8 * j) (tab 8 f)) (at + k) 0 ≡ bit (bit_at w k)
        at_place (yes low) = sets_around (tab 8 f) out (at + 8 * j) (at + k) (inl (omega arith)) ∙ before k low
        at_place (no high) =
            let place : at + k ≡ at + 8 * j + (k - 8 * j) = omega arith in
            let back : 8 * j + (k - 8 * j) ≡ k = omega arith in
            ap (λ (i : ℕ). get_or (sets out (at + 8 * j) (tab 8 f)) i 0) place
            ∙ sets_in f out (at + 8 * j) 8 (k - 8 * j) room (omega arith) ∙ eight (k - 8 * j) (omega arith) ∙ ap (λ (i : ℕ). bit (bit_at w i)) back
