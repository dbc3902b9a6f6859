-- FIPS 202, section 3: the permutation Keccak-f[1600] on a state of 25 lanes of w = 64 bits. Assumes nothing.
use Rattle.std.specs.Prelude.{Bool, true, false, List, [], ◌∷◌, ℕ, zero, suc, ◌+◌, ◌-◌, ◌*◌, ◌/◌, ◌%◌, ◌^◌, eqb, get_or, set, take}
use Rattle.std.specs.Int.Bits.{bit_and, bit_xor}
use Rattle.hashing.specs.Lists.{tab}

-- 3.1.2: lane A[x, y], bit z of which has the weight 2^z. The state is the list of its lanes, lane (x, y) at place 5y + x
unfoldable pub lane : List ℕ → ℕ → ℕ → ℕ
lane A x y = get_or A (5 * y + x) 0

-- 3.1.1: the five lanes of plane y
unfoldable pub plane : List ℕ → ℕ → List ℕ
plane A y = tab 5 (λ x. lane A x y)

-- the state with the given lanes
unfoldable pub state : (ℕ → ℕ → ℕ) → List ℕ
state f = tab 25 (λ i. f (i % 5) (i / 5))

-- a lane whose bit z is bit (z - n) mod 64 of the given one, n below 64
unfoldable pub rotate : ℕ → ℕ → ℕ
rotate n a = a * 2 ^ n % 2 ^ 64 + a / 2 ^ (64 - n)

-- a lane with each bit exchanged, which 3.2.4 writes ⊕ 1
abbrev pub complement : ℕ → ℕ
complement a = (2 ^ 64 - 1) - a

-- 3.2.1, algorithm 1: θ
unfoldable pub parity_c : List ℕ → ℕ → ℕ
parity_c A x = bit_xor (bit_xor (bit_xor (bit_xor (lane A x 0) (lane A x 1)) (lane A x 2)) (lane A x 3)) (lane A x 4)

unfoldable pub effect_d : List ℕ → ℕ → ℕ
effect_d A x = bit_xor (parity_c A ((x + 4) % 5)) (rotate 1 (parity_c A ((x + 1) % 5)))

unfoldable pub theta : List ℕ → List ℕ
theta A = state (λ x y. bit_xor (lane A x y) (effect_d A x))

-- 3.2.2, algorithm 2: ρ. Step 2 begins at (x, y) = (1, 0); step 3b goes on from (x, y) to (y, (2x + 3y) mod 5)
pub record Place : Type 0 where
  pub x : ℕ
  pub y : ℕ

unfoldable pub walk : ℕ → Place
walk zero = record { x = 1; y = 0 }
walk (suc t) = let p = walk t in record { x = p.y; y = (2 * p.x + 3 * p.y) % 5 }

unfoldable pub is_at : Place → ℕ → ℕ → Bool
is_at p x y = elim (eqb p.x x) [ true ↦ eqb p.y y | false ↦ false ]

-- step 3a: the lane that the walk meets at t < n is moved by (t + 1)(t + 2) / 2; a lane that it does not meet stays (step 1)
unfoldable pub offset_within : ℕ → ℕ → ℕ → ℕ
offset_within zero x y = 0
offset_within (suc t) x y =
    elim (is_at (walk t) x y) [ true ↦ (t + 1) * (t + 2) / 2 % 64 | false ↦ offset_within t x y ]

unfoldable pub offset : ℕ → ℕ → ℕ
offset x y = offset_within 24 x y

unfoldable pub rho : List ℕ → List ℕ
rho A = state (λ x y. rotate (offset x y) (lane A x y))

-- 3.2.3, algorithm 3: π
unfoldable pub pi : List ℕ → List ℕ
pi A = state (λ x y. lane A ((x + 3 * y) % 5) x)

-- 3.2.4, algorithm 4: χ
unfoldable pub chi : List ℕ → List ℕ
chi A = state (λ x y. bit_xor (lane A x y) (bit_and (complement (lane A ((x + 1) % 5) y)) (lane A ((x + 2) % 5) y)))

-- 3.2.5, algorithm 5: rc(t). Steps 3a to 3f on the register R, its bit 0 first
unfoldable pub tap : ℕ → List ℕ → List ℕ
tap i R = set R i (bit_xor (get_or R i 0) (get_or R 8 0))

unfoldable pub register : ℕ → List ℕ
register zero = 1 ∷ 0 ∷ 0 ∷ 0 ∷ 0 ∷ 0 ∷ 0 ∷ 0 ∷ []
register (suc i) = take 8 (tap 6 (tap 5 (tap 4 (tap 0 (0 ∷ register i)))))

unfoldable pub rc : ℕ → ℕ
rc t = get_or (register (t % 255)) 0 0

-- 3.2.5, algorithm 6, steps 2 and 3: bit 2^j - 1 of the constant is rc(j + 7 i), for j from 0 to 6
unfoldable pub constant_within : ℕ → ℕ → ℕ
constant_within zero i = 0
constant_within (suc j) i = constant_within j i + rc (j + 7 * i) * 2 ^ (2 ^ j - 1)

unfoldable pub round_constant : ℕ → ℕ
round_constant i = constant_within 7 i

-- step 4: ι changes lane (0, 0) alone
unfoldable pub iota : List ℕ → ℕ → List ℕ
iota A RC = set A 0 (bit_xor (lane A 0 0) RC)

-- 3.3: a round
unfoldable pub rnd : List ℕ → ℕ → List ℕ
rnd A i = iota (chi (pi (rho (theta A)))) (round_constant i)

-- 3.3 and 3.4: Keccak-f[1600] is 24 rounds, numbered from 0
unfoldable pub rounds : ℕ → List ℕ → List ℕ
rounds zero A = A
rounds (suc n) A = rnd (rounds n A) n

unfoldable pub keccak_f : List ℕ → List ℕ
keccak_f A = rounds 24 A
