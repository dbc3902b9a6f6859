-- `twice`: the whole words, the word of r, and the words after it.
use mathlib.Core.Path.{◌≡◌, sym, ap, ◌∙◌}
use mathlib.Core.List.{List, ◌++◌}
use Prim.Native.Nat.{ℕ, ◌+◌, ◌*◌, ◌/◌, ◌%◌, ◌^◌, ◌≤◌}
use native.Mathlib.Omega.{arith}
use lib.Bits.{bit_xor}
use lib.ListN.{length, get_or, take, drop}
use lib.Seq.{length-take-le}
use Rattle.hashing.specs.Lists.{bits}
use Rattle.hashing.proofs.Lists.{filled_again}
use Rattle.ring.specs.Bytes.{list_of}
use Rattle.exchange.specs.inner.ByteRows.{twice}
use Rattle.exchange.proofs.decoder.rows.Laws.{twice_low, laid, filled_drop, list_of_ext, seam}
use Rattle.exchange.proofs.decoder.rows.twice.Goals as goal
use Rattle.exchange.proofs.decoder.rows.twice.Goals.{After-lay_eight, After-store, Start}

first_is : (r : ℕ) (x f out : List ℕ) → 64 ≤ r → 8 * (r / 64) ≤ length f → out ≡ list_of 8 (length (take (8 * (r / 64)) f)) (bits 64 x)
    → out ++ drop (8 * (r / 64)) f ≡ list_of 8 (8 * (r / 64)) (twice r (bits 64 x)) ++ drop (8 * (r / 64)) f
first_is r x f out big room is =
    ap (λ (xs : List ℕ). xs ++ drop (8 * (r / 64)) f)
    (is ∙ ap (λ (n : ℕ). list_of 8 n (bits 64 x)) (length-take-le (8 * (r / 64)) f room)
    ∙ list_of_ext (8 * (r / 64)) (λ k below. sym (twice_low r (bits 64 x) k (omega arith))))

laid_is : (c : After-lay_eight) →
    let start = c.args in
    let n = 8 * (start.r / 64 + 1) in
    c.lay_eight.new.out ≡ list_of 8 n (twice start.r (bits 64 start.x)) ++ drop n start.f.now
laid_is c =
    let r = c.args.r in
    let x = c.args.x in
    c.lay_eight.ensures
    ∙ laid (twice r (bits 64 x)) (r / 64) (bit_xor (get_or x (r / 64) 0) (get_or x 0 0 * 2 ^ (r % 64) % 2 ^ 64)) (seam r x (omega arith) c.requires.fact_1.0 c.requires.fact_2) c.args.f.now _ (omega arith) (first_is c.args.r c.args.x c.args.f.now c.store.new.out (omega arith) (omega arith) c.store.ensures)

pub again-requires : goal.again-requires
unfolding list_of
again-requires c =
    record {
      fact_1 = omega arith;
      fact_2 = c.requires.fact_2;
      fact_3 = filled_again _ _ _ _ (laid_is (goal.at.again-requires c).After-lay_eight);
    }

-- what is there in the end
last_is : (r : ℕ) (x f out last : List ℕ) → 64 ≤ r → 8 * ((2 * r + 63) / 64) ≤ length f
    → out ≡ list_of 8 (8 * (r / 64 + 1)) (twice r (bits 64 x)) ++ drop (8 * (r / 64 + 1)) f
    → last ≡ list_of 8 (8 * ((2 * r + 63) / 64)) (twice r (bits 64 x)) ++ drop (8 * ((2 * r + 63) / 64)) out
    → last ≡ list_of 8 (8 * ((2 * r + 63) / 64)) (twice r (bits 64 x)) ++ drop (8 * ((2 * r + 63) / 64)) f
last_is r x f out last big room laid is =
    let n : ℕ = 8 * ((2 * r + 63) / 64) in
    let P = twice r (bits 64 x) in
    is ∙ ap (λ (xs : List ℕ). list_of 8 n P ++ xs) (ap (drop n) laid ∙ filled_drop (8 * (r / 64 + 1)) P f n (omega arith))

pub returns : goal.returns
returns c =
    last_is c.args.r c.args.x c.args.f.now _ _ (omega arith) (omega arith) (laid_is (goal.at.returns c).After-lay_eight) c.again.ensures
