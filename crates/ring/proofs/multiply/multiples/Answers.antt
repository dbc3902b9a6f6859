-- `multiply::multiples` meets its contract: rows 0 to 2 v - 1 are filled. Assumes nothing.
use mathlib.Core.Path.{◌≡◌, sym, ◌∙◌}
use Prim.Native.Nat.{ℕ, ◌+◌, ◌≤◌}
use native.Mathlib.Omega.{arith}
use lib.Dec.{lit<}
use lib.ListN.{length, get_or, set, length-set, get_or-eq_default}
use Rattle.hashing.specs.Lists.{bits}
use Rattle.ring.specs.inner.Sizes.{first_row}
use Rattle.ring.proofs.words.Laws.{written, outside}
use Rattle.ring.proofs.multiply.Laws.{clear_first, rows_first, clear_more, rows_more, words_in}
use Rattle.ring.proofs.multiply.multiples.Goals as goal

pub loop-v-init : goal.loop-v-init
loop-v-init c =
    let p = c.place in
    let b = c.args.b.now in
    let n = c.args.n in
    let t = p.new.t in
    let long : length b ≡ n = c.requires.1 in
    let past : length b ≤ n = omega arith in
    let P : ℕ → ℕ → Type 0 = λ i y. y ≡ get_or b i 0 in
    let out = outside P t c.args.t.now first_row n 0 (rw long at p.ensures.outside) in
    let in_place = written P t first_row n 0 (omega arith) (rw long at p.ensures.by_index) (sym (get_or-eq_default b 0 past)) in
    let same = length-set t (first_row + n) 0 ∙ p.auto.t in (
      lit< tt,
      omega arith,
      clear_first n c.args.t.now b (set t (first_row + n) 0) c.requires.0 long same c.requires.2 out in_place,
      rows_first n c.args.t.now b (set t (first_row + n) 0) c.requires.0 long same c.requires.2 out in_place,
    )

pub loop-v-preserved : goal.loop-v-preserved
loop-v-preserved c =
    let l = c.loop-v in
    let f = c.fill_two in
    let n = c.args.n in
    let b = c.args.b.now in
    let inside = words_in n b c.requires.1 in (
      omega arith,
      omega arith,
      clear_more n l.v (bits 64 b) l.t f.new.t c.requires.0 l.invariant.0 (omega arith) inside f.auto.t l.invariant.2
          f.ensures.by_index f.ensures.by_index_2 f.ensures.by_index_3,
      rows_more n l.v (bits 64 b) l.t f.new.t c.requires.0 l.invariant.0 (omega arith) inside f.auto.t l.invariant.2
          f.ensures.by_index f.ensures.by_index_2 f.ensures.by_index_3 l.invariant.3,
    )
