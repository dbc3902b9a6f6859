-- Laws of answers, for every entry of every crate: what settles where nothing applies and where something does, what an
-- answer 0 says, and that a promise admits just one outcome. Assumes nothing.
use mathlib.Core.Path.{◌≡◌, refl, sym, ◌∙◌}
use mathlib.Core.Bool.{Bool, true, false}
use mathlib.Core.List.{List, [], ◌∷◌, ◌++◌, map}
use Prim.Native.Nat.{ℕ, zero, suc, ◌<◌}
use native.Mathlib.Omega.{arith}
use borrow.Author.Tests.{eqb-true, not-false}
use lib.Dec.{eqb}
use lib.ListN.{length, replicate}
use Rattle.hashing.specs.Answers.{Reason, Output, Outcome, differs, first_of, zeros, content, settle, reported}
use Rattle.hashing.specs.Answers.Outcome.{gives}
use Rattle.hashing.specs.Refusals.{number}
use Rattle.hashing.specs.declared.refusal.Refusal.{Refusal}
use Rattle.hashing.specs.declared.refusal.Refusal.TheVariants.{UnknownLevel, WrongLength, PadBit, BadPosition, NoInverse, Undecoded, CutRecord, UnknownKind, WrongBody, WordsRanOut, AnotherTag, AnotherKart, OldCounter, TurnTooFar}

-- lengths that do not differ
pub agree : (a b : ℕ) → differs a b ≡ false → a ≡ b
unfolding differs
agree a b e = eqb-true a b (not-false (eqb a b) e)

-- no refusal has the number 0
pub numbered : (refusal : Refusal) → number refusal ≡ 0 → ⊥
numbered UnknownLevel e = omega arith
numbered WrongLength e = omega arith
numbered PadBit e = omega arith
numbered BadPosition e = omega arith
numbered NoInverse e = omega arith
numbered Undecoded e = omega arith
numbered CutRecord e = omega arith
numbered UnknownKind e = omega arith
numbered WrongBody e = omega arith
numbered WordsRanOut e = omega arith
numbered AnotherTag e = omega arith
numbered AnotherKart e = omega arith
numbered OldCounter e = omega arith
numbered TurnTooFar e = omega arith

-- each output's value
abbrev pub values : List Output → List (List ℕ)
values outputs = map (λ (output : Output). output.value) outputs

-- what settles, by whether a reason applies
module _ (reasons : List Reason) (outputs : List Output) where
  pub done : first_of reasons ≡ 0 → settle reasons outputs ≡ gives 0 (values outputs)
  unfolding settle content
  done none = rw none

  pub refused : {answer : ℕ} → answer ≡ first_of reasons → (answer ≡ 0 → ⊥)
      → settle reasons outputs ≡ gives answer (map zeros outputs)
  unfolding settle content
  refused {answer} first some = rw (← first) (go answer some)
    where
      go : (n : ℕ) → (n ≡ 0 → ⊥) → gives n (map (content n) outputs) ≡ gives n (map zeros outputs)
      go zero some = absurd (some refl)
      go (suc n) some = refl

  -- the same of a refusal by its name
  pub refuses : (refusal : Refusal) → number refusal ≡ first_of reasons
      → settle reasons outputs ≡ gives (number refusal) (map zeros outputs)
  refuses refusal first = refused first (numbered refusal)

  -- and what is then reported
  pub done_reports : (numbers : List ℕ) → first_of reasons ≡ 0 → reported (settle reasons outputs) numbers ≡ numbers
  unfolding settle content reported
  done_reports numbers none = rw none

  pub refused_reports : (numbers : List ℕ) {answer : ℕ} → answer ≡ first_of reasons → (answer ≡ 0 → ⊥)
      → reported (settle reasons outputs) numbers ≡ replicate (length numbers) 0
  unfolding settle content reported
  refused_reports numbers {answer} first some = rw (← first) (go answer some)
    where
      go : (n : ℕ) → (n ≡ 0 → ⊥) → content n (record { room = length numbers; value = numbers }) ≡ replicate (length numbers) 0
      go zero some = absurd (some refl)
      go (suc n) some = refl

  pub refuses_reports : (numbers : List ℕ) (refusal : Refusal) → number refusal ≡ first_of reasons
      → reported (settle reasons outputs) numbers ≡ replicate (length numbers) 0
  refuses_reports numbers refusal first = refused_reports numbers first (numbered refusal)

  -- an answer 0, read backwards: nothing applies, and each output has its value
  pub settled : {contents : List (List ℕ)} → settle reasons outputs ≡ gives 0 contents
      → (first_of reasons ≡ 0) × (contents ≡ values outputs)
  unfolding settle content
  settled {contents} e =
      let none : first_of reasons ≡ 0 = cc in
      let is : map (content (first_of reasons)) outputs ≡ contents = cc in
      (none, sym (rw none at is))

pub settled_two : (reasons : List Reason) (o p : Output) (a b : List ℕ) → settle reasons (o ∷ p ∷ []) ≡ gives 0 (a ∷ b ∷ [])
    → (first_of reasons ≡ 0) × (a ≡ o.value) × (b ≡ p.value)
settled_two reasons o p a b e = let all = settled reasons (o ∷ p ∷ []) e in (all.0, cc, cc)

-- where the answer is 0, the first reason does not apply, and neither does one of the rest
pub clear : (reason : Reason) (rest : List Reason) → 0 < reason.number → first_of (reason ∷ rest) ≡ 0
    → (reason.applies ≡ false) × (first_of rest ≡ 0)
unfolding first_of
clear reason rest real e = go reason.applies e
  where
    go : (b : Bool) → ◌≡◌ {A = ℕ} (elim b as (λ _. ℕ) [ true ↦ reason.number | false ↦ first_of rest ]) 0
        → (b ≡ false) × (first_of rest ≡ 0)
    go true e = absurd (omega arith)
    go false e = (refl, e)

-- no reason has the number 0
abbrev pub Numbered : List Reason → Type 0
Numbered [] = Unit {0}
Numbered (reason ∷ rest) = (0 < reason.number) × Numbered rest

-- reasons that come after others: they count where none of those applies, and not where one does
pub first_after : (before rest : List Reason) → Numbered before → first_of before ≡ 0 → first_of (before ++ rest) ≡ first_of rest
unfolding first_of
first_after [] rest real none = refl
first_after (reason ∷ before) rest real none =
    let next = clear reason before real.0 none in
    rw (next.0, first_of) (first_after before rest real.1 next.1)

pub first_stays : (before rest : List Reason) → (first_of before ≡ 0 → ⊥) → first_of (before ++ rest) ≡ first_of before
unfolding first_of
first_stays [] rest some = absurd (some refl)
first_stays (reason ∷ before) rest some = go reason.applies some (first_stays before rest)
  where
    pick : Bool → ℕ → ℕ
    pick b later = elim b [ true ↦ reason.number | false ↦ later ]

    go : (b : Bool) → (pick b (first_of before) ≡ 0 → ⊥) → ((first_of before ≡ 0 → ⊥) → first_of (before ++ rest) ≡ first_of before)
        → pick b (first_of (before ++ rest)) ≡ pick b (first_of before)
    go true some stays = refl
    go false some stays = stays some

-- one reason more, which shows only after the work
module _ (before : List Reason) (last : Reason) (real : Numbered before) (none : first_of before ≡ 0) where
  pub last_applies : last.applies ≡ true → first_of (before ++ (last ∷ [])) ≡ last.number
  unfolding first_of
  last_applies so = first_after before (last ∷ []) real none ∙ rw (so, first_of)

  pub last_clear : last.applies ≡ false → first_of (before ++ (last ∷ [])) ≡ 0
  unfolding first_of
  last_clear so = first_after before (last ∷ []) real none ∙ rw (so, first_of)

-- and an answer 0 of both says that none of either applies
pub all_clear : (before rest : List Reason) → Numbered before → first_of (before ++ rest) ≡ 0 → (first_of before ≡ 0) × (first_of rest ≡ 0)
unfolding first_of
all_clear [] rest real none = (refl, none)
all_clear (reason ∷ before) rest real none =
    let next = clear reason (before ++ rest) real.0 none in
    rw (next.0, first_of) (all_clear before rest real.1 next.1)

-- A promise is an equation of the outcome with a function of the inputs. So two outcomes that keep it for the same input are
-- the same: one answer, and one content for each output.
pub one_outcome : {said : Outcome} {r r' : ℕ} {outs outs' : List (List ℕ)} → gives r outs ≡ said → gives r' outs' ≡ said
    → (r ≡ r') × (outs ≡ outs')
one_outcome p q = (cc, cc)

pub one_output : {said : Outcome} {r r' : ℕ} {out out' : List ℕ} → gives r (out ∷ []) ≡ said → gives r' (out' ∷ []) ≡ said
    → (r ≡ r') × (out ≡ out')
one_output p q = let same = one_outcome p q in (same.0, cc)

pub two_outputs : {said : Outcome} {r r' : ℕ} {out out' other other' : List ℕ}
    → gives r (out ∷ other ∷ []) ≡ said → gives r' (out' ∷ other' ∷ []) ≡ said
    → (r ≡ r') × (out ≡ out') × (other ≡ other')
two_outputs p q = let same = one_outcome p q in (same.0, cc, cc)

pub three_outputs : {said : Outcome} {r r' : ℕ} {out out' other other' third third' : List ℕ}
    → gives r (out ∷ other ∷ third ∷ []) ≡ said → gives r' (out' ∷ other' ∷ third' ∷ []) ≡ said
    → (r ≡ r') × (out ≡ out') × (other ≡ other') × (third ≡ third')
three_outputs p q = let same = one_outcome p q in (same.0, cc, cc, cc)

-- numbers that are reported
pub one_number : {said : List ℕ} {n n' : ℕ} → n ∷ [] ≡ said → n' ∷ [] ≡ said → n ≡ n'
one_number p q = cc

pub two_numbers : {said : List ℕ} {n n' k k' : ℕ} → n ∷ k ∷ [] ≡ said → n' ∷ k' ∷ [] ≡ said → (n ≡ n') × (k ≡ k')
two_numbers p q = (cc, cc)
