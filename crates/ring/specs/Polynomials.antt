-- The ring of document 01: polynomials over two elements with X^r = 1. Assumes nothing.
use Rattle.std.specs.Prelude.{◌≡◌, Bool, true, false, not, ◌||◌, List, [], ◌∷◌, ◌++◌, ℕ, zero, suc, ◌+◌, ◌*◌, ◌%◌, ◌^◌, ◌≤◌, eqb}
use Rattle.hashing.specs.Lists.{bit_at}

-- a polynomial is its coefficients: a k says whether X^k occurs
abbrev pub Poly : Type 0
Poly = ℕ → Bool

-- it is one of the ring of r where no coefficient from r on is set
abbrev pub InRing : ℕ → Poly → Type 0
InRing r a = (k : ℕ) → r ≤ k → a k ≡ false

-- exclusive or, and both
abbrev pub flip : Bool → Bool → Bool
flip true true = false
flip true false = true
flip false b = b

abbrev pub both : Bool → Bool → Bool
both true b = b
both false b = false

-- the parity of the number of i below n for which f holds
unfoldable pub parity : ℕ → (ℕ → Bool) → Bool
parity zero f = false
parity (suc n) f = flip (parity n f) (f n)

-- the parity over the exponents i of a
unfoldable pub over : ℕ → Poly → (ℕ → Bool) → Bool
over r a f = parity r (λ i. both (a i) (f i))

-- X^i, whose exponent is taken modulo r
unfoldable pub power : ℕ → ℕ → Poly
power r i k = eqb (i % r) k

unfoldable pub one : ℕ → Poly
one r = power r 0

-- "Sum is exclusive or; the product adds exponents modulo r"
unfoldable pub add : Poly → Poly → Poly
add a b k = flip (a k) (b k)

unfoldable pub mul : ℕ → Poly → Poly → Poly
mul r a b k = over r a (λ i. over r b (λ j. power r (i + j) k))

-- the sum of X^i for the i of a list
unfoldable pub terms : ℕ → List ℕ → Poly
terms r [] = λ k. false
terms r (i ∷ rest) = add (power r i) (terms r rest)

-- whether a number is in a list
unfoldable pub listed : ℕ → List ℕ → Bool
listed p [] = false
listed p (x ∷ rest) = eqb p x || listed p rest

-- the polynomial whose exponents are listed
unfoldable pub support : List ℕ → Poly
support positions k = listed k positions

-- "A polynomial's weight is the number of ones"
abbrev pub bit : Bool → ℕ
bit true = 1
bit false = 0

unfoldable pub weight : ℕ → Poly → ℕ
weight zero a = 0
weight (suc r) a = weight r a + bit (a r)

-- the exponents of a below n, in rising order
unfoldable pub rising : ℕ → Poly → List ℕ
rising zero a = []
rising (suc n) a = rising n a ++ (elim (a n) [ true ↦ n ∷ [] | false ↦ [] ])

-- a(X^m): each exponent i of a becomes m times i modulo r
unfoldable pub spread : ℕ → ℕ → Poly → Poly
spread r m a k = over r a (λ i. power r (m * i) k)

-- a^n
unfoldable pub pow : ℕ → Poly → ℕ → Poly
pow r a zero = one r
pow r a (suc n) = mul r (pow r a n) a

-- b is an inverse of a: a polynomial of the ring that multiplies a to 1
pub record IsInverse (r : ℕ) (a b : Poly) : Type 0 where
  pub inside : InRing r b
  pub product : mul r a b ≡ one r

-- whether two polynomials agree below r
unfoldable pub same : ℕ → Poly → Poly → Bool
same zero a b = true
same (suc r) a b = both (same r a b) (not (flip (a r) (b r)))

-- whether f holds for some number below n, and the first of them
unfoldable pub some_below : ℕ → (ℕ → Bool) → Bool
some_below zero f = false
some_below (suc n) f = some_below n f || f n

unfoldable pub first_below : ℕ → (ℕ → Bool) → ℕ
first_below zero f = 0
first_below (suc n) f = elim (some_below n f) [ true ↦ first_below n f | false ↦ n ]

-- The ring has 2^r polynomials, and number n of them has the binary digits of n for its coefficients. Whether one of them
-- multiplies a to 1, and which is the first, are found by looking at all: a meaning, which nobody computes at a real r.
unfoldable pub inverts : ℕ → Poly → ℕ → Bool
inverts r a n = same r (mul r a (bit_at n)) (one r)

unfoldable pub has_inverse : ℕ → Poly → Bool
has_inverse r a = some_below (2 ^ r) (inverts r a)

unfoldable pub inverse_of : ℕ → Poly → Poly
inverse_of r a = bit_at (first_below (2 ^ r) (inverts r a))

-- t says whether P holds
pub record Tells (t : Bool) (P : Type 0) : Type 0 where
  pub holds : t ≡ true → P
  pub fails : t ≡ false → P → ⊥
