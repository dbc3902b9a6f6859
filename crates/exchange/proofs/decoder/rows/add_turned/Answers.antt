-- `add_turned`: before each pass the rows of the earlier ones are added; those past the last position are empty.
use mathlib.Core.Path.{◌≡◌, sym, ap, ap₂, ◌∙◌}
use Prim.Native.Nat.{ℕ, ◌+◌, ◌*◌}
use native.Mathlib.Omega.{arith}
use lib.ListN.{get_or}
use Rattle.hashing.specs.Lists.{bits}
use Rattle.hashing.proofs.Lists.{from_table}
use Rattle.ring.specs.Polynomials.{flip, parity}
use Rattle.ring.proofs.Parity.{flip_false, flip_assoc, parity_ext, parity_past, parity-split}
use Rattle.exchange.specs.inner.ByteRows.{turned_row}
use Rattle.exchange.proofs.decoder.rows.Laws.{turned_past, turned_room, rows_product}
use Rattle.exchange.proofs.decoder.rows.add_turned.Goals as goal
use Rattle.exchange.proofs.decoder.rows.add_turned.Invariants.{adds}

pub loop-pass-init : goal.loop-pass-init
unfolding parity
loop-pass-init c = (omega arith, λ k h. sym (flip_false (bits 8 c.args.z.now k)))

pub add_rows-requires : goal.add_rows-requires
add_rows-requires c =
    let was = c.loop-pass in
    let positions = c.args.positions.now in
    let r = c.args.r in
    let d = c.args.d in (
      omega arith,
      λ m h.
          let at : get_or c.eight_starts-at.result m 0 ≡ turned_row r positions d (8 * was.pass + m) =
          from_table 8 (λ m. turned_row r positions d (8 * was.pass + m)) 0 c.eight_starts-at.ensures m h in
          omega (arith, turned_room r positions d (8 * was.pass + m) c.requires.fact_1.1),
    )

pub loop-pass-preserved : goal.loop-pass-preserved
loop-pass-preserved c =
    let was = c.loop-pass in
    let positions = c.args.positions.now in
    let f = c.args.rows.now.bytes in
    let z₀ = c.args.z.now in
    let r = c.args.r in
    let d = c.args.d in
    let eight = c.eight_starts-at in
    let next : 8 * was.pass + 8 ≡ 8 * (was.pass + 1) = omega arith in (
      omega arith,
      λ k h.
          c.add_rows.ensures k h
          ∙ ap₂ flip (was.invariant.1 k h)
          (parity_ext 8 {f = λ m. bits 8 f (8 * get_or eight.result m 0 + k)} {g = λ m. adds r positions d f k (8 * was.pass + m)}
          (λ m few. ap (λ (at : ℕ). bits 8 f (8 * at + k)) (from_table 8 (λ m. turned_row r positions d (8 * was.pass + m)) 0 eight.ensures m few)))
          ∙ flip_assoc (bits 8 z₀ k) (parity (8 * was.pass) (adds r positions d f k)) (parity 8 (λ m. adds r positions d f k (8 * was.pass + m)))
          ∙ ap (flip (bits 8 z₀ k)) (sym (parity-split (8 * was.pass) 8 (adds r positions d f k)) ∙ ap (λ (n : ℕ). parity n (adds r positions d f k)) next),
    )

pub returns : goal.returns
returns c =
    let was = c.loop-pass in
    let positions = c.args.positions.now in
    let f = c.args.rows.now.bytes in
    let z₀ = c.args.z.now in
    let r = c.args.r in
    let d = c.args.d in
    λ x held k low.
    was.invariant.1 k (omega arith)
    ∙ ap (flip (bits 8 z₀ k))
    (parity_past d (8 * was.pass) (adds r positions d f k) (omega arith)
    (λ i past more. ap (λ (at : ℕ). bits 8 f (8 * at + k)) (turned_past r positions d i past) ∙ c.args.rows.now.empty k (omega (arith, c.requires.fact_1.1)))
    ∙ rows_product r c.requires.fact_1.0 x f positions d held c.requires.fact_1.2 c.requires.fact_2 k low)
