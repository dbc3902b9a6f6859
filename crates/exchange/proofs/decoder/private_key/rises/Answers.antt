-- `rises`: what is still to come decides, unless a position so far did.
use mathlib.Core.Path.{◌≡◌, refl, sym, ◌∙◌}
use mathlib.Core.Bool.{Bool, true, false, ◌&&◌}
use mathlib.Core.List.{List}
use Prim.Native.Nat.{ℕ, suc, ◌+◌, ◌<◌}
use native.Mathlib.Numerals.{add-one}
use native.Mathlib.Omega.{arith}
use lib.Dec.{leb, ltb}
use lib.ListN.{length, get_or, drop}
use lib.Seq.{drop-cons, drop-length}
use Rattle.exchange.specs.decoder.PrivateKey.{rising_from}
use Rattle.exchange.proofs.decoder.private_key.rises.Goals as goal

and_assoc : (a b c d : Bool) → ((a && b) && c) && d ≡ a && (b && (c && d))
and_assoc false b c d = refl
and_assoc true false c d = refl
and_assoc true true c d = refl

-- one position more
more : (r least i : ℕ) (h : List ℕ) (good : Bool) → i < length h →
    let p = get_or h i 0 in
    ((good && leb least p) && ltb p r) && rising_from r (p + 1) (drop (i + 1) h) ≡ good && rising_from r least (drop i h)
unfolding rising_from
more r least i h good room =
    rw (drop-cons h i 0 room, add-one (get_or h i 0), add-one i)
    (and_assoc good (leb least (get_or h i 0)) (ltb (get_or h i 0) r) (rising_from r (suc (get_or h i 0)) (drop (suc i) h)))

pub loop-position-preserved : goal.loop-position-preserved
loop-position-preserved c =
    let turn = c.loop-position in
    let start = c.args in
    (omega arith, more start.r turn.least turn.position-index start.h.now turn.good (omega arith) ∙ turn.invariant.1)

-- nothing is left
past : (r least : ℕ) (h : List ℕ) (good : Bool) → good && rising_from r least (drop (length h) h) ≡ good
unfolding rising_from
past r least h true = rw (drop-length h)
past r least h false = refl

pub returns : goal.returns
returns c =
    let turn = c.loop-position in
    let start = c.args in
    let all : turn.position-index ≡ length start.h.now = omega arith in
    sym (past start.r turn.least start.h.now turn.good) ∙ rw (← all) turn.invariant.1
