-- `inverse` inverts where its judge finds nothing, and refuses with 5 where there is no inverse.
use mathlib.Core.Path.{◌≡◌, sym, ap, ◌∙◌}
use mathlib.Core.Bool.{not}
use mathlib.Core.List.{[]}
use Prim.Native.Nat.{◌+◌, ◌*◌, ◌/◌}
use native.Mathlib.Omega.{arith}
use Rattle.std.specs.Prelude.{is_some, IfSome}
use Rattle.hashing.specs.Lists.{bits}
use Rattle.hashing.specs.declared.refusal.Refusal.TheVariants.{NoInverse}
use Rattle.hashing.proofs.Answers.{numbered, done, refuses, done_reports, refuses_reports, first_stays, last_applies, last_clear}
use Rattle.ring.specs.Bytes.{bytes_of}
use Rattle.ring.specs.Chain.{chain_products}
use Rattle.ring.specs.Levels.{level_of}
use Rattle.ring.specs.Polynomials.{InRing, has_inverse, inverse_of}
use Rattle.ring.specs.Promises.{inverse_says, products_say}
use Rattle.ring.proofs.Judging.{judged-one, inverse_numbered}
use Rattle.ring.proofs.Levels.{r_odd, r_cycle, sizes}
use Rattle.ring.proofs.Weights.{weight_in}
use Rattle.ring.proofs.inverse.Goals as goal
use Rattle.ring.proofs.inverse.Goals.{After-invert-found}

pub returns-in-Err : goal.returns-in-Err
unfolding inverse_says products_say
returns-in-Err c =
    let first = c.in-Err.ensures in
    let is = first ∙ sym (first_stays _ _ (λ none. numbered c.in-Err.refusal (first ∙ none))) in
    record {
      inverse_promise = rw (c.refused.ensures.0, c.refused.ensures.2) (sym (refuses _ _ c.in-Err.refusal is));
      products_promise = rw c.refused.ensures.1 (sym (refuses_reports _ [] _ c.in-Err.refusal first));
    }

pub load-x-requires : goal.load-x-requires
load-x-requires c = let found = judged-one _ _ _ (sym c.in_default.ensures) in omega arith

pub weight-requires : goal.weight-requires
weight-requires c = let bounds = sizes c.args.level in let r = c.block-r.ensures in omega arith

pub invert-found-requires : goal.invert-found-requires
invert-found-requires c =
    let bounds = sizes c.args.level in
    let r = (level_of c.args.level).r in
    let found = judged-one _ _ _ (sym c.in_default.ensures) in
    let inside : InRing r (bits 64 c.load-x.result) =
    rw c.load-x.ensures (found.inside0 (λ i. (c.shared_slice_known-1.given i).fits)) in
    record {
      fact_1 = rw c.block-r.ensures (r_odd _, omega arith, found.small, r_cycle _);
      fact_2 = rw c.block-r.ensures inside;
      fact_3 = rw c.block-r.ensures (λ few. sym (weight_in r (64 * (r / 64 + 1)) inside (omega arith)) ∙ sym (rw c.block-r.ensures at c.weight.ensures));
    }

-- what `invert` says, of the bytes
inverted : (c : After-invert-found) →
    let args = c.args in
    let r = (level_of args.level).r in
    let found = c.invert-found.result in
    (is_some found.value ≡ has_inverse r (bits 8 args.a.now))
    × IfSome found.value (λ value. bits 64 value ≡ inverse_of r (bits 8 args.a.now))
    × (found.products ≡ chain_products r (bits 8 args.a.now))
inverted c =
    let told = c.invert-found.ensures in
    rw (← c.load-x.ensures, ← c.block-r.ensures) (told.fact_1, told.fact_2, told.fact_3)

pub returns-in_default-value : goal.returns-in_default-value
unfolding inverse_says products_say
returns-in_default-value c =
    let told = inverted (goal.at.returns-in_default-value c).After-invert-found in
    let missing = sym told.0 ∙ ap is_some c.in_default-value.is in
    let none = sym c.in_default.ensures in
    let five = last_applies _ _ (inverse_numbered _ _ _) none (ap not missing) in
    let said = c.refused-in_default-value.ensures in
    record {
      inverse_promise = rw (said.0, said.2) (sym (refuses _ _ NoInverse (sym five)));
      products_promise = rw (said.1, told.2) (sym (done_reports _ [] _ none));
    }

pub store-requires : goal.store-requires
store-requires c = let found = judged-one _ _ _ (sym c.in_default.ensures) in omega arith

pub returns : goal.returns
unfolding inverse_says products_say bytes_of
returns c =
    let told = rw c.in-Some.is at (inverted (goal.at.returns c).After-invert-found) in
    let none = sym c.in_default.ensures in
    let clear = last_clear _ (record { applies = _; number = 5 }) (inverse_numbered _ _ _) none (ap not (sym told.0)) in
    record {
      inverse_promise = rw (done, c.store.ensures, told.1, (judged-one _ _ _ none).size);
      products_promise = rw told.2 (sym (done_reports _ [] _ none));
    }
