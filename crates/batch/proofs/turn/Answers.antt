-- `turn`: the steps over the bytes at hand, whose rest goes to the front.
use mathlib.Core.Path.{◌≡◌, sym, ap, ◌∙◌}
use mathlib.Core.List.{List}
use Prim.Native.Nat.{ℕ, ◌+◌, ◌-◌, ◌≤◌, ◌<◌, min}
use native.Mathlib.Decide.{dec_lt}
use native.Mathlib.Omega.{arith}
use lib.ListN.{length, get_or, take, drop}
use lib.Seq.{length-take-le, length-slice, take_all, ext_get_or, get_or-take, get_or-drop}
use Rattle.batch.proofs.turn.Goals as goal
use Rattle.batch.proofs.turn.Goals.{After-steps-done}

-- no more than there are
at_most : (n : ℕ) (xs : List ℕ) → take n xs ≡ take (min n (length xs)) xs
at_most n xs = go (dec_lt n (length xs))
  where
    go : Dec (n < length xs) → take n xs ≡ take (min n (length xs)) xs
    go (yes few) = let same : min n (length xs) ≡ n = omega arith in rw same
    go (no all) = let same : min n (length xs) ≡ length xs = omega arith in take_all n xs (omega arith) ∙ sym (rw same (take_all (length xs) xs (omega arith)))

-- after the steps: the bytes that they used are among those at hand, which are in the window
used_within : (c : After-steps-done) →
    let end = c.min-end.result in
    (c.steps-done.result.used ≤ end) × (end ≤ length c.args.window.now)
used_within c =
    let end = c.min-end.result in
    let window = c.args.window.now in
    let most : end ≤ length window = omega (arith, c.min-end.ensures) in
    (omega (arith, c.steps-done.ensures.goes.within, length-take-le end window most), most)

pub returns : goal.returns
returns c =
    let end = c.min-end.result in
    let window = c.args.window.now in
    let most = used_within (goal.at.returns c).After-steps-done in
    let size = length-take-le end window most.1 in
    let steps = c.steps-done.ensures in
    let used = c.steps-done.result.used in
    let moved : length (take (end - used) c.copy_within.new.self) ≡ end - used =
    length-take-le _ _ (omega (arith, most.0, most.1, c.copy_within.ensures.len)) in
    let front : take (end - used) c.copy_within.new.self ≡ drop used (take end window) =
    ext_get_or 0 _ _ (moved ∙ sym (length-slice used end window most.1))
    (λ k below.
    let inside : k < end - used = omega (arith, below, moved) in
    get_or-take (end - used) c.copy_within.new.self k 0 inside
    ∙ c.copy_within.ensures.by_index.0 k 0 (omega arith) (omega (arith, inside))
    ∙ ap (λ (i : ℕ). get_or window (used + i) 0) (omega arith)
    ∙ sym (get_or-drop used (take end window) k 0 ∙ get_or-take end window (used + k) 0 (omega (arith, inside)))) in
    let hand : take c.args.have window ≡ take end window =
    rw c.min-end.ensures (at_most c.args.have window) in
    record {
      same = λ rest all. rw (hand, front) (steps.goes.same rest all);
      sound = steps.goes.sound;
      within = omega (arith, most.0, most.1, c.copy_within.ensures.len);
      wants = λ on. let few = steps.wants on in (few.0, omega (arith, few.1, size));
      nearer = λ on room. steps.nearer on (λ more. rw hand at (room more));
    }
