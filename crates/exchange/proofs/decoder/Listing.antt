-- Positions that rise below r: what their polynomial is to the ring, and to the counters. Assumes nothing.
use mathlib.Core.Path.{◌≡◌, refl, sym, ap, ap₂, ◌∙◌, fun_ext}
use mathlib.Core.Bool.{Bool, true, false, ◌&&◌, ◌||◌, and-false, true≢false}
use mathlib.Core.List.{List, [], ◌∷◌}
use Prim.Native.Nat.{ℕ, zero, suc, ◌+◌, ◌*◌, ◌%◌, ◌≤◌, ◌<◌}
use native.Mathlib.Nat.{not-suc-le-zero, le_refl, le_of_suc-le-suc, mod-eq_of_lt, zero-add, add_comm}
use native.Mathlib.Decide.{dec_lt, ℕ_discrete}
use native.Mathlib.Omega.{arith}
use borrow.Author.Tests.{eq-eqb, ne_eqb, le-leb, lt-ltb, leb-true, ltb-true}
use lib.Dec.{eqb, leb, ltb}
use lib.ListN.{length, get_or, take}
use lib.Seq.{get_or-take, length-take-le}
use Rattle.hashing.specs.Lists.{bits}
use Rattle.ring.specs.Polynomials.{Poly, InRing, both, bit, add, mul, power, terms, weight, listed, support}
use Rattle.ring.proofs.Ring.{mul_comm, terms_in}
use Rattle.exchange.specs.inner.ByteRows.{row_at, ByteRows}
use Rattle.exchange.specs.inner.Counting.{total}
use Rattle.exchange.specs.decoder.Decoder.{counter}
use Rattle.exchange.specs.decoder.PrivateKey.{rising_from}
use Rattle.exchange.specs.inner.Working.{Rising}
use Rattle.ring.specs.inner.Sizes.{most_d, word_bits}
use Rattle.ring.specs.Levels.{level_of}
use Rattle.ring.proofs.Levels.{sizes}
use Rattle.ring.proofs.Bools.{both_true}
use Rattle.ring.proofs.Weights.{weight_ext, weight_more, weight-none}
use Rattle.exchange.proofs.decoder.Totals.{total_ext}

-- the first of them, and the rest
rising_head : (r least p : ℕ) (rest : List ℕ) → rising_from r least (p ∷ rest) ≡ true → (least ≤ p) × (p < r) × (rising_from r (suc p) rest ≡ true)
unfolding rising_from
rising_head r least p rest e =
    let low = both_true (leb least p) _ e in
    let high = both_true (ltb p r) _ low.1 in
    (leb-true least p low.0, ltb-true p r high.0, high.1)

pub rising_below : (r least : ℕ) (ps : List ℕ) → rising_from r least ps ≡ true → (i : ℕ) → i < length ps → get_or ps i 0 < r
rising_below r least [] e i h = absurd (not-suc-le-zero h)
rising_below r least (p ∷ rest) e zero h = (rising_head r least p rest e).1
rising_below r least (p ∷ rest) e (suc i) h = rising_below r (suc p) rest (rising_head r least p rest e).2 i (le_of_suc-le-suc h)

-- they rise from the first of them on
rising_own : (r least p : ℕ) (rest : List ℕ) → rising_from r least (p ∷ rest) ≡ true → rising_from r p (p ∷ rest) ≡ true
unfolding rising_from
rising_own r least p rest e =
    let head = rising_head r least p rest e in rw (le-leb p p (le_refl p), lt-ltb p r head.1) head.2

head_listed : (p : ℕ) (rest : List ℕ) → listed p (p ∷ rest) ≡ true
unfolding listed
head_listed p rest = rw (eq-eqb p p refl)

rising_fresh : (r least : ℕ) (ps : List ℕ) → rising_from r least ps ≡ true → (p : ℕ) → p < least → listed p ps ≡ false
unfolding listed
rising_fresh r least [] e p h = refl
rising_fresh r least (q ∷ rest) e p h =
    let head = rising_head r least q rest e in
    rw (ne_eqb p q (λ same. omega (arith, head.0))) (rising_fresh r (suc q) rest head.2 p (omega (arith, head.0)))

-- two such lists of one polynomial are the same: the smaller head would be listed in one and not in the other
pub rising_unique : (r least : ℕ) (ps qs : List ℕ) → rising_from r least ps ≡ true → rising_from r least qs ≡ true
    → support ps ≡ support qs → ps ≡ qs
unfolding support listed
rising_unique r least [] [] e f same = refl
rising_unique r least [] (q ∷ qs) e f same = absurd (true≢false (sym (head_listed q qs) ∙ ap (λ (a : Poly). a q) (sym same)))
rising_unique r least (p ∷ ps) [] e f same = absurd (true≢false (sym (head_listed p ps) ∙ ap (λ (a : Poly). a p) same))
rising_unique r least (p ∷ ps) (q ∷ qs) e f same = go (dec_lt p q) (dec_lt q p) (rising_unique r (suc p) ps qs)
  where
    at : (k : ℕ) → listed k (p ∷ ps) ≡ listed k (q ∷ qs)
    at k = ap (λ (a : Poly). a k) same

    -- below the head nothing is listed, and the rest lists what the whole does but the head
    tails : p ≡ q → (k : ℕ) → Dec (k ≡ p) → listed k ps ≡ listed k qs
    tails heads k (yes here) =
        let head = rising_head r least p ps e in
        let other = rising_head r least q qs f in
        rising_fresh r (suc p) ps head.2 k (omega arith) ∙ sym (rising_fresh r (suc q) qs other.2 k (omega arith))
    tails heads k (no there) = rw (ne_eqb k p there, ne_eqb k q (λ is. there (is ∙ sym heads))) at (at k)

    go : Dec (p < q) → Dec (q < p) → (rising_from r (suc p) ps ≡ true → rising_from r (suc p) qs ≡ true → support ps ≡ support qs → ps ≡ qs) → p ∷ ps ≡ q ∷ qs
    go (yes less) more rest = absurd (true≢false (sym (head_listed p ps) ∙ at p ∙ rising_fresh r q (q ∷ qs) (rising_own r least q qs f) p less))
    go (no less) (yes more) rest = absurd (true≢false (sym (head_listed q qs) ∙ sym (at q) ∙ rising_fresh r p (p ∷ ps) (rising_own r least p ps e) q more))
    go (no less) (no more) rest =
        let heads : p ≡ q = omega arith in
        ap₂ ◌∷◌ heads (rest (rising_head r least p ps e).2 (rw (← heads) at (rising_head r least q qs f).2) (fun_ext (λ k. tails heads k (ℕ_discrete k p))))

-- their sum of powers has just them for exponents
pub terms-support : (r least : ℕ) (ps : List ℕ) → rising_from r least ps ≡ true → terms r ps ≡ support ps
unfolding terms support listed add power
terms-support r least [] e = refl
terms-support r least (p ∷ rest) e = fun_ext (λ k. go k (ℕ_discrete k p) (ap (λ (a : Poly). a k) (terms-support r (suc p) rest (rising_head r least p rest e).2)))
  where
    go : (k : ℕ) → Dec (k ≡ p) → terms r rest k ≡ listed k rest → add (power r p) (terms r rest) k ≡ eqb k p || listed k rest
    go k (yes here) before =
        let head = rising_head r least p rest e in
        rw (before, mod-eq_of_lt head.1, eq-eqb k p here, eq-eqb p k (sym here), here, rising_fresh r (suc p) rest head.2 p (omega arith))
    go k (no there) before =
        rw (before, mod-eq_of_lt (rising_head r least p rest e).1, ne_eqb k p there, ne_eqb p k (λ same. there (sym same)))

pub rising_in : (r : ℕ) → 0 < r → (least : ℕ) (ps : List ℕ) → rising_from r least ps ≡ true → InRing r (support ps)
rising_in r pos least ps good = rw (← terms-support r least ps good) (terms_in r pos ps)

-- one position more that was not listed
pick_more : (r p : ℕ) (a f : Poly) → p < r → a p ≡ false
    → weight r (λ q. both (eqb q p || a q) (f q)) ≡ bit (f p) + weight r (λ q. both (a q) (f q))
pick_more r p a f below fresh = go (f p) refl
  where
    same : (t : Bool) → f p ≡ t → (q : ℕ) → Dec (q ≡ p) → both (eqb q p || a q) (f q) ≡ (eqb q p && t) || both (a q) (f q)
    same t e q (no other) = rw (ne_eqb q p other)
    same true e q (yes here) = rw (eq-eqb q p here, ap f here ∙ e)
    same false e q (yes here) = rw (eq-eqb q p here, ap f here ∙ e, ap a here ∙ fresh)

    and-true : (t : Bool) → t && true ≡ t
    and-true true = refl
    and-true false = refl

    go : (t : Bool) → f p ≡ t → weight r (λ q. both (eqb q p || a q) (f q)) ≡ bit t + weight r (λ q. both (a q) (f q))
    go true e =
        weight_ext r {b = λ q. eqb q p || both (a q) (f q)}
        (λ q h. same true e q (ℕ_discrete q p) ∙ ap (λ (t : Bool). t || both (a q) (f q)) (and-true (eqb q p)))
        ∙ weight_more r (λ q. both (a q) (f q)) p below (rw fresh) ∙ omega arith
    go false e =
        weight_ext r {b = λ q. both (a q) (f q)}
        (λ q h. same false e q (ℕ_discrete q p) ∙ ap (λ (t : Bool). t || both (a q) (f q)) (and-false (eqb q p)))
        ∙ sym (zero-add (weight r (λ q. both (a q) (f q))))

total-cons : (n : ℕ) (f : ℕ → ℕ) → total (suc n) f ≡ f 0 + total n (λ k. f (suc k))
unfolding total
total-cons zero f = omega arith
total-cons (suc n) f = let before = total-cons n f in omega arith

-- counting over the exponents is counting down the list
pub weight_list : (r least : ℕ) (ps : List ℕ) (f : Poly) → rising_from r least ps ≡ true
    → weight r (λ p. both (listed p ps) (f p)) ≡ total (length ps) (λ i. bit (f (get_or ps i 0)))
unfolding listed total
weight_list r least [] f e = weight-none r
weight_list r least (p ∷ rest) f e =
    let head = rising_head r least p rest e in
    pick_more r p (λ q. listed q rest) f head.1 (rising_fresh r (suc p) rest head.2 p (omega arith))
    ∙ ap (◌+◌ (bit (f p))) (weight_list r (suc p) rest f head.2)
    ∙ sym (total-cons (length rest) (λ i. bit (f (get_or (p ∷ rest) i 0))))

-- a counter is how many of the rows of the residual are set
pub counted : (r d : ℕ) (positions f : List ℕ) (x : Poly) → d ≤ length positions → rising_from r 0 (take d positions) ≡ true → ByteRows r x f
    → (j : ℕ) → j < r → total d (λ i. bit (bits 8 f (8 * row_at (get_or positions i 0) + j))) ≡ counter r (support (take d positions)) x j
unfolding counter support
counted r d positions f x room good rows j below =
    total_ext d (λ i. bit (bits 8 f (8 * row_at (get_or positions i 0) + j))) (λ i. bit (x ((j + get_or (take d positions) i 0) % r))) each
    ∙ ap (λ (n : ℕ). total n (λ i. bit (x ((j + get_or (take d positions) i 0) % r)))) (sym size)
    ∙ sym (weight_list r 0 (take d positions) (λ p. x ((j + p) % r)) good)
  where
    size : length (take d positions) ≡ d
    size = length-take-le d positions room

    each : (i : ℕ) → i < d → bit (bits 8 f (8 * row_at (get_or positions i 0) + j)) ≡ bit (x ((j + get_or (take d positions) i 0) % r))
    each i h =
        let at : get_or (take d positions) i 0 ≡ get_or positions i 0 = get_or-take d positions i 0 h in
        let low : get_or (take d positions) i 0 < r = rising_below r 0 (take d positions) good i (omega (arith, size)) in
        let start : get_or positions i 0 ≤ r = omega arith in
        ap bit (rows (get_or positions i 0) j start below ∙ ap (λ (k : ℕ). x (k % r)) (add_comm (get_or positions i 0) j ∙ ap (◌+◌ j) (sym at)))

-- each of the first d positions lies below r
pub position_below : (r d : ℕ) (positions : List ℕ) → d ≤ length positions → rising_from r 0 (take d positions) ≡ true
    → (i : ℕ) → i < d → get_or positions i 0 < r
position_below r d positions room good i h =
    rw (← get_or-take d positions i 0 h) (rising_below r 0 (take d positions) good i (omega (arith, length-take-le d positions room)))

-- what a function on the positions of a half asks of them
pub ready : (level r d : ℕ) (h : List ℕ) → r ≡ (level_of level).r → d ≡ (level_of level).d → Rising (level_of level) h
    → ((64 ≤ r) × (r < word_bits) × (d ≤ length h) × (d ≤ most_d)) × ((i : ℕ) → i < d → get_or h i 0 < r)
ready level r d h at-r at-d rising =
    let size = sizes level in
    let long = rising.0 in
    ((omega arith, omega arith, omega arith, omega arith), position_below r d h (omega arith) (rw (at-r, at-d) rising.1))

-- the product by what they list
pub product : (r least : ℕ) (ps : List ℕ) (x : Poly) → rising_from r least ps ≡ true → mul r (terms r ps) x ≡ mul r x (support ps)
product r least ps x good = ap (λ (a : Poly). mul r a x) (terms-support r least ps good) ∙ mul_comm r (support ps) x
