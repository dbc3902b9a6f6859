-- The sampler lists as many positions as were asked for, all below len and no two equal. Assumes nothing.
use mathlib.Core.Path.{◌≡◌, refl, sym, ap, ◌∙◌}
use mathlib.Core.Bool.{Bool, true, false, ◌||◌, or_assoc, or-false, or-true, false≢true}
use mathlib.Core.List.{List, [], ◌∷◌, ◌++◌}
use mathlib.Core.Logic.{⊎_elim}
use Prim.Native.Nat.{ℕ, zero, suc, ◌+◌, ◌-◌, ◌*◌, ◌/◌, ◌^◌, ◌≤◌, ◌<◌, zero-le}
use native.Mathlib.Nat.{le_refl, le-add_right, add-zero, zero-add, mul-lt-mul_of_pos_left, div-lt_iff_lt-mul}
use native.Mathlib.Numerals.{add-one}
use native.Mathlib.Omega.{arith}
use lib.Dec.{eqb}
use lib.ListN.{length, get_or, set, take, length-append}
use lib.Pow.{pow_pos}
use lib.Seq.{take-suc-set}
use borrow.Author.Tests.{eqb-true, eqb-false, eq-eqb, ne_eqb}
use Rattle.ring.specs.Polynomials.{bit, weight, listed}
use Rattle.exchange.specs.Sampler.{candidate, appended, sample_below, sample, replaced_below}
use Rattle.ring.proofs.Bools.{both_false, one_true}
use Rattle.ring.proofs.Upper.{Distinct}
use Rattle.ring.proofs.Weights.{weight-none, weight_more}

pub listed_snoc : (p : ℕ) (list : List ℕ) (x : ℕ) → listed p (list ++ (x ∷ [])) ≡ listed p list || eqb p x
unfolding listed
listed_snoc p [] x = or-false (eqb p x)
listed_snoc p (y ∷ list) x = rw (listed_snoc p list x) (sym (or_assoc (eqb p y) (listed p list) (eqb p x)))

-- ---- one step

pub candidate_below : (len i s : ℕ) → i < len → s < 2 ^ 32 → (len - i) * s / 2 ^ 32 < len - i
candidate_below len i s more small = (div-lt_iff_lt-mul (pow_pos 32)).1 (mul-lt-mul_of_pos_left small (omega arith))

-- the turn of the loop for step j, with n positions listed
pub sample-turn : (len : ℕ) (words : List ℕ) (j n : ℕ) (list : List ℕ) (v : ℕ) → n < length list
    → take n list ++ (v ∷ []) ≡ appended j (candidate len j (get_or words j 0)) (take n list)
    → sample_below len words j (take (n + 1) (set list n v)) ≡ sample_below len words (j + 1) (take n list)
unfolding sample_below
sample-turn len words j n list v room e = rw (add-one n, add-one j, take-suc-set list n v room, e)

-- and what it adds to the count
pub replaced-turn : (len : ℕ) (words : List ℕ) (j n : ℕ) (list : List ℕ) (v more : ℕ) → n < length list
    → take n list ++ (v ∷ []) ≡ appended j (candidate len j (get_or words j 0)) (take n list)
    → more ≡ bit (listed (candidate len j (get_or words j 0)) (take n list))
    → more + replaced_below len words j (take (n + 1) (set list n v)) ≡ replaced_below len words (j + 1) (take n list)
unfolding replaced_below
replaced-turn len words j n list v more room e counted = rw (add-one n, add-one j, take-suc-set list n v room, e, counted)

-- ---- the list

pub distinct_snoc : (list : List ℕ) (x : ℕ) → Distinct list → listed x list ≡ false → Distinct (list ++ (x ∷ []))
unfolding listed
distinct_snoc [] x apart new = (refl, tt)
distinct_snoc (y ∷ list) x apart new =
    let others = both_false (eqb x y) (listed x list) new in (
      rw (listed_snoc y list x, apart.0) (ne_eqb y x (λ e. eqb-false x y others.0 (sym e))),
      distinct_snoc list x apart.1 others.1,
    )

pub distinct_weight : (n : ℕ) (list : List ℕ) → Distinct list → ((p : ℕ) → listed p list ≡ true → p < n)
    → weight n (λ k. listed k list) ≡ length list
unfolding listed
distinct_weight n [] apart within = weight-none n
distinct_weight n (x ∷ list) apart within =
    weight_more n (λ k. listed k list) x (within x (rw (eq-eqb x x refl))) apart.0
    ∙ ap suc (distinct_weight n list apart.1 (λ p e. within p (rw e (or-true (eqb p x)))))

-- a list of the steps from i on: its positions are from i to below len, and distinct
record From (len i : ℕ) (list : List ℕ) : Type 0 where
  within : (p : ℕ) → listed p list ≡ true → (i ≤ p) × (p < len)
  apart : Distinct list

from_snoc : {len i : ℕ} {list : List ℕ} (x : ℕ) → i ≤ x → x < len → listed x list ≡ false → From len (suc i) list → From len i (list ++ (x ∷ []))
from_snoc {len} {i} {list} x low high new from =
    record {
      within = λ p e.
          ⊎_elim (λ old. let bounds = from.within p old in (omega arith, omega arith)) (λ last. let same = eqb-true p x last in (omega arith, omega arith))
          (one_true (listed p list) (eqb p x) (sym (listed_snoc p list x) ∙ e));
      apart = distinct_snoc list x from.apart new;
    }

from_appended : {len i pos : ℕ} {list : List ℕ} → i ≤ pos → pos < len → From len (suc i) list → From len i (appended i pos list)
unfolding appended
from_appended {len} {i} {pos} {list} low high from = go (listed pos list) refl
  where
    -- what was listed before is from i + 1 on
    unlisted : (t : Bool) → listed i list ≡ t → t ≡ false
    unlisted true e = absurd (let past = (from.within i e).0 in omega arith)
    unlisted false e = refl

    go : (t : Bool) → listed pos list ≡ t → From len i (list ++ (elim t [ true ↦ i | false ↦ pos ] ∷ []))
    go true e = from_snoc i (le_refl i) (omega arith) (unlisted (listed i list) refl) from
    go false e = from_snoc pos low high e from

-- words of 32 bits
module _ (len : ℕ) (words : List ℕ) (small : (i : ℕ) → get_or words i 0 < 2 ^ 32) where
  from_below : (i : ℕ) (list : List ℕ) → i ≤ len → From len i list → From len 0 (sample_below len words i list)
  unfolding sample_below candidate
  from_below zero list room from = from
  from_below (suc i) list room from =
      let pos = candidate_below len i (get_or words i 0) room (small i) in
      from_below i _ (omega arith) (from_appended (le-add_right i _) (omega arith) from)

length_below : (len : ℕ) (words : List ℕ) (i : ℕ) (list : List ℕ) → length (sample_below len words i list) ≡ length list + i
unfolding sample_below appended
length_below len words zero list = sym (add-zero (length list))
length_below len words (suc i) list = length_below len words i _ ∙ rw (length-append list _) (omega arith)

-- a list whose front has n positions has room for them
pub front_long : (n : ℕ) (list : List ℕ) → length (take n list) ≡ n → n ≤ length list
front_long zero list e = zero-le
front_long (suc n) [] e = absurd (omega arith)
front_long (suc n) (x ∷ list) e = let rest = front_long n list (omega arith) in omega arith

pub sample-length : (len wt : ℕ) (words : List ℕ) → length (sample len wt words) ≡ wt
unfolding sample
sample-length len wt words = length_below len words wt [] ∙ zero-add wt

module _ (len wt : ℕ) (words : List ℕ) (room : wt ≤ len) (small : (i : ℕ) → get_or words i 0 < 2 ^ 32) where
  from_sample : From len 0 (sample len wt words)
  unfolding sample listed
  from_sample = from_below len words small wt [] room (record { within = λ p e. absurd (false≢true e); apart = tt })

  pub sample_below_lem : (p : ℕ) → listed p (sample len wt words) ≡ true → p < len
  sample_below_lem p e = (from_sample.within p e).1

  pub sample_distinct : Distinct (sample len wt words)
  sample_distinct = from_sample.apart

  -- "weight wt": the polynomial with these exponents has as many
  pub sample-weight : weight len (λ k. listed k (sample len wt words)) ≡ wt
  sample-weight =
      distinct_weight len (sample len wt words) sample_distinct sample_below_lem ∙ sample-length len wt words
