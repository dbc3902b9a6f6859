-- `search` passes words over: before turn i those from `from` to i; inside a turn, the position is not among the first k listed.
use mathlib.Core.Path.{◌≡◌, refl, ◌∙◌}
use mathlib.Core.Bool.{false}
use Prim.Native.Nat.{ℕ, ◌≤◌, ◌<◌}
use native.Mathlib.Numerals.{add-one}
use native.Mathlib.Omega.{arith}
use borrow.Author.Count.{below_more}
use borrow.Author.Tests.{ne_eqb}
use lib.Bits.{bit_and}
use lib.ListN.{length, get_or, take}
use lib.Seq.{take-suc, take_all}
use Rattle.ring.specs.Polynomials.{listed}
use Rattle.exchange.specs.Fair.{taken}
use Rattle.exchange.proofs.sampler.Laws.{listed_snoc}
use Rattle.exchange.proofs.fair.Laws.{passed_high, passed_listed, taken_new, listed_at}
use Rattle.exchange.proofs.fair.search.Goals as goal
use Rattle.exchange.proofs.fair.search.Goals.{Joined-pos-r, then-pos-r+else-k-list+then-pos-list, else-pos-r}

pub loop-k-preserved : goal.loop-k-preserved
loop-k-preserved c =
    let was = c.loop-k in
    let list = c.args.list.now in
    let more : was.k < length list = omega arith in
    (omega arith, rw (add-one, take-suc list was.k 0 more) (listed_snoc _ (take was.k list) _ ∙ rw was.invariant.1 (ne_eqb _ _ c.if-pos-list.false)))

-- either way the word is passed over
passed : (c : Joined-pos-r) →
    let given = c.args in
    taken given.r (bit_and (get_or given.words.now c.words.i 0) given.mask) given.list.now ≡ false
passed c =
    let list = c.args.list.now in
    elim c.if-pos-r.branch [
      | then-pos-r+else-k-list+then-pos-list w ↦ passed_listed _ _ list (listed_at _ list w.loop-k.k (omega arith) w.if-pos-list.true)
      | else-pos-r w ↦ passed_high _ _ list w.if-pos-r.false
    ]

pub words-preserved : goal.words-preserved
words-preserved c =
    let was = c.words in
    let given = c.args in
    let over : ℕ → Type 0 = λ j. given.from ≤ j → taken given.r (bit_and (get_or given.words.now j 0) given.mask) given.list.now ≡ false in
    (omega arith, omega arith, below_more over was.i was.invariant.2 (λ low. passed (goal.at.words-preserved c).Joined-pos-r))

pub returns-then-k-list : goal.returns-then-k-list
returns-then-k-list c =
    let was = c.words in
    let list = c.args.list.now in
    let all : length list ≤ c.loop-k.k = omega arith in
    let new = rw (take_all c.loop-k.k list all) at c.loop-k.invariant.1 in
    (was.invariant.0, was.invariant.1, λ j low high. was.invariant.2 j high low, λ more. taken_new _ _ list c.if-pos-r.true new)

pub loop-k-init : goal.loop-k-init
unfolding listed
loop-k-init c = (omega arith, refl)
