-- Facts of every level: one test of a row, computed over the whole table, and what follows from it. Assumes nothing.
use mathlib.Core.Path.{◌≡◌, refl}
use mathlib.Core.Bool.{Bool, true, false, ◌&&◌, false≢true}
use mathlib.Core.List.{List, [], ◌∷◌, map}
use mathlib.Core.Logic.{⊎_elim}
use Prim.Native.Nat.{ℕ, zero, suc, ◌+◌, ◌-◌, ◌*◌, ◌/◌, ◌%◌, ◌^◌, ◌≤◌, ◌<◌}
use native.Mathlib.Nat.{mul-le-mul_left, div-lt_iff_lt-mul}
use native.Mathlib.Omega.{arith}
use borrow.Author.Tests.{ltb-true, leb-true, eqb-true}
use lib.Dec.{eqb, leb, ltb}
use lib.ListN.{get_or}
use Rattle.hashing.specs.Lists.{bit_at}
use Rattle.ring.specs.Chain.{doubled, longer, climb, digits, halvings, top, climbed, chain_products}
use Rattle.ring.specs.inner.Sizes.{most_d, most_t, word_bits}
use Rattle.ring.specs.Invertible.{RunsThrough}
use Rattle.ring.specs.Polynomials.{Poly, listed}
use Rattle.ring.specs.Levels.{Level, level1, level3, level5, table, known, row_in, level_of, poly_bytes, poly_words, pad_bits, position_bits, ciphertext_bytes, private_bytes, masked}
use Rattle.ring.proofs.Bools.{both_true, one_true}
use Rattle.ring.proofs.Walks.{walk, walk_runs}

-- the sizes of a row, for the code that adds and multiplies them
pub record Sizes (r d t : ℕ) : Type 0 where
  pub r_least : most_t < r
  pub r_most : r < word_bits
  pub d_most : d ≤ most_d
  pub t_least : 0 < t
  pub t_most : t ≤ most_t

-- the numbers of the threshold of a weight s
pub record Bounds (l : Level) (s : ℕ) : Type 0 where
  pub sum : l.slope * s + l.offset < 2 ^ 40
  pub divides : 0 < l.divisor
  pub quotient : (l.slope * s + l.offset) / l.divisor < 256
  pub least : 3 < l.least
  pub most : l.least < 256

-- a position has its room in the binary digits of r, and these theirs in two bytes
pub record Width (r : ℕ) : Type 0 where
  pub holds : r ≤ 2 ^ position_bits r
  pub most : position_bits r ≤ 16

-- all that proofs use of a row. The inverse rests on `cycle`: the powers of 2 return to 1 after r - 1 steps; when there is one, on
-- `misses`: and not before
pub record Facts (l : Level) : Type 0 where
  pub odd : l.r % 2 ≡ 1
  pub cycle : 2 ^ (l.r - 1) % l.r ≡ 1
  pub sizes : Sizes l.r l.d l.t
  pub bounds : Bounds l l.r
  pub width : Width l.r
  pub misses : walk l.r (l.r - 2) 2 ≡ true
  pub d_odd : l.d % 2 ≡ 1

-- and the tests that show it
tests : Level → List Bool
tests l =
    let sum = l.slope * l.r + l.offset in
    eqb (l.r % 2) 1 ∷ eqb (2 ^ (l.r - 1) % l.r) 1
    ∷ ltb most_t l.r ∷ ltb l.r word_bits ∷ leb l.d most_d ∷ ltb 0 l.t ∷ leb l.t most_t
    ∷ ltb sum (2 ^ 40) ∷ ltb 0 l.divisor ∷ ltb (sum / l.divisor) 256 ∷ ltb 3 l.least ∷ ltb l.least 256
    ∷ leb l.r (2 ^ position_bits l.r) ∷ leb (position_bits l.r) 16 ∷ walk l.r (l.r - 2) 2 ∷ eqb (l.d % 2) 1 ∷ []

every : List Bool → Bool
every [] = true
every (t ∷ rest) = t && every rest

fits : Level → Bool
fits l = every (tests l)

every_at : (ts : List Bool) → every ts ≡ true → (i : ℕ) → get_or ts i true ≡ true
unfolding every
every_at [] e i = refl
every_at (t ∷ rest) e zero = (both_true t (every rest) e).0
every_at (t ∷ rest) e (suc i) = every_at rest (both_true t (every rest) e).1 i

fits_facts : (l : Level) → fits l ≡ true → Facts l
unfolding fits tests
fits_facts l e =
    let at = every_at (tests l) e in
    record {
      odd = eqb-true _ _ (at 0);
      cycle = eqb-true _ _ (at 1);
      sizes = record {
        r_least = ltb-true _ _ (at 2);
        r_most = ltb-true _ _ (at 3);
        d_most = leb-true _ _ (at 4);
        t_least = ltb-true _ _ (at 5);
        t_most = leb-true _ _ (at 6);
      };
      bounds = record {
        sum = ltb-true _ _ (at 7);
        divides = ltb-true _ _ (at 8);
        quotient = ltb-true _ _ (at 9);
        least = ltb-true _ _ (at 10);
        most = ltb-true _ _ (at 11);
      };
      width = record { holds = leb-true _ _ (at 12); most = leb-true _ _ (at 13) };
      misses = at 14;
      d_odd = eqb-true _ _ (at 15);
    }

-- the whole table, and with it the row of every number
table_fits : every (map fits table) ≡ true
unfolding every fits tests table level1 level3 level5 top halvings walk
table_fits = refl

row_fits : (rows : List Level) (level : ℕ) → every (map fits rows) ≡ true → fits level1 ≡ true → fits (row_in rows level) ≡ true
unfolding row_in every
row_fits [] level all first = first
row_fits (l ∷ rest) level all first = go (eqb level l.number) (row_fits rest level)
  where
    go : (t : Bool) → (every (map fits rest) ≡ true → fits level1 ≡ true → fits (row_in rest level) ≡ true)
        → fits (elim t [ true ↦ l | false ↦ row_in rest level ]) ≡ true
    go true later = (both_true (fits l) (every (map fits rest)) all).0
    go false later = later (both_true (fits l) (every (map fits rest)) all).1 first

pub facts : (level : ℕ) → Facts (level_of level)
unfolding level_of table every
facts level = fits_facts (level_of level) (row_fits table level table_fits (every_at (map fits table) table_fits 0))

-- one by one
pub sizes : (level : ℕ) → Sizes (level_of level).r (level_of level).d (level_of level).t
sizes level = (facts level).sizes

pub r_pos : (level : ℕ) → 0 < (level_of level).r
r_pos level = omega (arith, (sizes level).r_least)

pub r_odd : (level : ℕ) → (level_of level).r % 2 ≡ 1
r_odd level = (facts level).odd

pub r_small : (level : ℕ) → (level_of level).r < word_bits
r_small level = (sizes level).r_most

pub r_cycle : (level : ℕ) → 2 ^ ((level_of level).r - 1) % (level_of level).r ≡ 1
r_cycle level = (facts level).cycle

-- CR 9: the powers of 2 modulo r run through 1 to r - 1
pub powers_run : (level : ℕ) → RunsThrough (level_of level).r
powers_run level = walk_runs (level_of level).r (omega (arith, (sizes level).r_least)) (r_odd level) (facts level).misses

pub d_odd : (level : ℕ) → (level_of level).d % 2 ≡ 1
d_odd level = (facts level).d_odd

pub width : (level : ℕ) → Width (level_of level).r
width level = (facts level).width

-- a residual's weight is at most r, and what holds of r holds of it
pub bounds : (level s : ℕ) → s ≤ (level_of level).r → Bounds (level_of level) s
bounds level s few =
    let l = level_of level in
    let at-r = (facts level).bounds in
    let less : l.slope * s ≤ l.slope * l.r = mul-le-mul_left l.slope few in
    let room : l.slope * l.r + l.offset < 256 * l.divisor = (div-lt_iff_lt-mul at-r.divides).0 at-r.quotient in
    record {
      sum = omega (arith, at-r.sum);
      divides = at-r.divides;
      quotient = (div-lt_iff_lt-mul at-r.divides).1 (omega (arith, room));
      least = at-r.least;
      most = at-r.most;
    }

-- a known level's number takes one byte
total : List ℕ → ℕ
total [] = 0
total (x ∷ xs) = x + total xs

listed-total : (x : ℕ) (xs : List ℕ) → listed x xs ≡ true → x ≤ total xs
unfolding listed total
listed-total x [] e = absurd (false≢true e)
listed-total x (y ∷ xs) e =
    ⊎_elim (λ here. omega (arith, eqb-true x y here)) (λ later. omega (arith, listed-total x xs later)) (one_true (eqb x y) (listed x xs) e)

pub level_small : (level : ℕ) → known level ≡ true → level < 256
unfolding known table level1 level3 level5 total
level_small level e = omega (arith, listed-total level (map (λ (l : Level). l.number) table) e)

-- the table's other numbers: bytes of a polynomial, its words, its pad bits, bytes of a ciphertext and of a private key, the masked
-- bound, and the place of the highest digit of r - 2 in the chain of the inverse
pub computed : Level → List ℕ
computed l = poly_bytes l ∷ poly_words l ∷ pad_bits l ∷ ciphertext_bytes l ∷ private_bytes l ∷ masked l ∷ top (l.r - 2) ∷ []

pub computed1 : computed level1 ≡ 1541 ∷ 193 ∷ 5 ∷ 1573 ∷ 348 ∷ 37 ∷ 13 ∷ []
unfolding computed level1 top halvings
computed1 = refl

pub computed3 : computed level3 ≡ 3083 ∷ 386 ∷ 5 ∷ 3115 ∷ 476 ∷ 53 ∷ 14 ∷ []
unfolding computed level3 top halvings
computed3 = refl

pub computed5 : computed level5 ≡ 5122 ∷ 641 ∷ 3 ∷ 5154 ∷ 612 ∷ 70 ∷ 15 ∷ []
unfolding computed level5 top halvings
computed5 = refl

-- the price of an inverse in full products, whatever the polynomial: its value is never looked at
pub chain_price : (a : Poly) → (chain_products level1.r a ≡ 16) × (chain_products level3.r a ≡ 18) × (chain_products level5.r a ≡ 19)
unfolding level1 level3 level5 chain_products climbed climb digits doubled longer top halvings bit_at
chain_price a = (refl, refl, refl)
