-- `residual`: the syndrome in bytes, and two products that are added to it.
use mathlib.Core.Path.{◌≡◌, sym, ap, ap₂, ◌∙◌}
use mathlib.Core.Bool.{Bool}
use mathlib.Core.List.{List, ◌++◌}
use Prim.Native.Nat.{ℕ, ◌+◌, ◌*◌, ◌/◌, ◌≤◌, ◌<◌}
use native.Mathlib.Omega.{arith}
use lib.Dec.{lit<}
use lib.ListN.{length, take, drop}
use lib.Seq.{length-take-le}
use Rattle.hashing.specs.Lists.{bits}
use Rattle.hashing.proofs.Words.{bits_out}
use Rattle.ring.specs.Bytes.{list_of}
use Rattle.ring.specs.Levels.{level_of}
use Rattle.ring.specs.Polynomials.{Poly, flip, add, mul, terms, support}
use Rattle.ring.proofs.Levels.{r_pos, sizes}
use Rattle.ring.proofs.Parity.{flip_assoc}
use Rattle.ring.proofs.Ring.{ring_ext}
use Rattle.exchange.specs.decoder.Decoder.{residual}
use Rattle.exchange.specs.inner.ByteRows.{block_bytes, blocks}
use Rattle.exchange.specs.inner.Working.{key_of, pair_of, Rising}
use Rattle.exchange.proofs.decoder.Laws.{residual_in}
use Rattle.exchange.proofs.decoder.Listing.{ready, product}
use Rattle.exchange.proofs.decoder.rows.Laws.{filled_bits, taken-bits}
use Rattle.exchange.proofs.decoder.rounds.residual.Goals as goal

-- the bytes of the syndrome: as many as its words have
bytes_fit : (level r : ℕ) → r ≡ (level_of level).r → 8 * (r / 64 + 1) ≤ blocks * block_bytes
bytes_fit level r is = let size = sizes level in omega (arith, is)

module _ (level r : ℕ) (is : r ≡ (level_of level).r) (z : List ℕ) (long : length z ≡ blocks * block_bytes) where
  abbrev bytes : ℕ
  bytes = 8 * (r / 64 + 1)

  whole : length (take bytes z) ≡ bytes
  whole = length-take-le bytes z (rw long (bytes_fit level r is))

  -- what the window holds once they are stored
  stored_is : (s out : List ℕ) → out ≡ list_of 8 (length (take bytes z)) (bits 64 s)
      → out ++ drop bytes z ≡ list_of 8 bytes (bits 64 s) ++ drop bytes z
  stored_is s out stored =
      ap (λ (xs : List ℕ). xs ++ drop bytes z) (stored ∙ ap (λ (m : ℕ). list_of 8 m (bits 64 s)) whole)

pub add_product-requires : goal.add_product-requires
add_product-requires c =
    let asked = ready c.args.level _ _ c.args.key.half0 c.block-r.ensures c.key_weight-d.ensures c.requires.fact_1.0 in
    record {
      fact_1 = (asked.0.0, asked.0.1, asked.0.2, asked.0.3);
      fact_2 = asked.1;
      fact_3 = rw c.block-r.ensures c.requires.fact_2.1.0;
    }

pub add_product-requires-2 : goal.add_product-requires-2
add_product-requires-2 c =
    let asked = ready c.args.level _ _ c.args.key.half1 c.block-r.ensures c.key_weight-d.ensures c.requires.fact_1.1 in
    record {
      fact_1 = (asked.0.0, asked.0.1, asked.0.2, asked.0.3);
      fact_2 = asked.1;
      fact_3 = rw c.block-r.ensures c.requires.fact_2.1.1;
    }

pub cut-requires : goal.cut-requires
cut-requires c =
    let size = sizes c.args.level in record {
      fact_1 = omega (arith, c.block-r.ensures);
      fact_2 = λ k past.
          ap (λ (p : Poly). p k) c.load.ensures
          ∙ bits_out 8 (take (8 * (c.block-r.result / 64 + 1)) c.add_product-2.new.z) k (lit< tt) (rw (whole c.args.level _ c.block-r.ensures c.add_product-2.new.z (omega arith)) (omega arith));
    }

-- two products by what the positions list
products : (level r d : ℕ) (h0 h1 : List ℕ) (s e0 e1 : Poly) (k : ℕ) {a b c : Bool} → r ≡ (level_of level).r → d ≡ (level_of level).d → Rising (level_of level) h0 → Rising (level_of level) h1
    → a ≡ s k → b ≡ flip a (mul r (terms r (take d h0)) e0 k) → c ≡ flip b (mul r (terms r (take d h1)) e1 k)
    → c ≡ residual (level_of level).r (record { half0 = support (take (level_of level).d h0); half1 = support (take (level_of level).d h1) }) s (record { half0 = e0; half1 = e1 }) k
unfolding residual add
products level r d h0 h1 s e0 e1 k at-r at-d rising0 rising1 first second third =
    rw (third, second, first, at-r, at-d)
    (flip_assoc (s k) _ _
    ∙ ap (flip (s k)) (ap₂ flip (ap (λ (p : Poly). p k) (product _ 0 _ e0 rising0.1)) (ap (λ (p : Poly). p k) (product _ 0 _ e1 rising1.1))))

pub returns : goal.returns
returns c =
    let l = level_of c.args.level in
    let key = c.args.key in
    let r = c.block-r.result in
    let at-r = c.block-r.ensures in
    let z = c.filled-z.result in
    let stored = stored_is c.args.level r at-r z (omega arith) c.args.s c.store.new.out c.store.ensures in
    let sum_is : (k : ℕ) → k < r → bits 8 c.add_product-2.new.z k ≡ residual l.r (key_of l key) (bits 64 c.args.s) (pair_of c.args.e) k =
    λ k low.
    let first = ap (λ (xs : List ℕ). bits 8 xs k) stored ∙ filled_bits _ (bits 64 c.args.s) _ k (omega arith) in
    products c.args.level _ _ key.half0 key.half1 (bits 64 c.args.s) (bits 64 c.args.e.half0) (bits 64 c.args.e.half1) k
    at-r c.key_weight-d.ensures c.requires.fact_1.0 c.requires.fact_1.1
    first (c.add_product.ensures k low) (c.add_product-2.ensures k low) in
    ring_ext l.r (rw (← at-r) c.cut.ensures.fact_1) (residual_in l.r (r_pos c.args.level) (key_of l key) (pair_of c.args.e) c.requires.fact_2.0)
    (λ k below.
    let low : k < r = rw at-r below in
    c.cut.ensures.fact_2 k low ∙ ap (λ (p : Poly). p k) c.load.ensures
    ∙ taken-bits c.add_product-2.new.z (8 * (r / 64 + 1)) k (omega arith) ∙ sum_is k low)

pub slice_bounds-z-end : goal.slice_bounds-z-end
slice_bounds-z-end c = omega (arith, bytes_fit _ _ c.block-r.ensures)

pub slice_bounds-store-end : goal.slice_bounds-store-end
slice_bounds-store-end c = sym (whole _ _ c.block-r.ensures _ (omega arith))

pub store-requires : goal.store-requires
store-requires c = let size = sizes c.args.level in rw (whole _ _ c.block-r.ensures c.filled-z.result (omega arith)) (omega (arith, c.block-r.ensures))

pub slice_bounds-z-end-2 : goal.slice_bounds-z-end-2
slice_bounds-z-end-2 c = omega (arith, bytes_fit _ _ c.block-r.ensures)

pub slice_bounds-load-end : goal.slice_bounds-load-end
slice_bounds-load-end c = sym (whole _ _ c.block-r.ensures _ (omega arith))

pub load-requires : goal.load-requires
load-requires c = let size = sizes c.args.level in rw (whole _ _ c.block-r.ensures c.add_product-2.new.z (omega arith)) (omega (arith, c.block-r.ensures))
