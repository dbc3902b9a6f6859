-- `byte`: before turn k the first k bits are added.
use mathlib.Core.Path.{◌≡◌, refl, ap}
use mathlib.Core.Bool.{Bool}
use Prim.Native.Nat.{ℕ, suc, ◌+◌, ◌*◌, ◌%◌, ◌^◌, ◌≤◌, ◌<◌}
use native.Mathlib.Nat.{mod-eq_of_lt}
use native.Mathlib.Numerals.{add-one}
use native.Mathlib.Omega.{arith}
use lib.Pow.{pow_mono}
use Rattle.hashing.specs.Lists.{bits}
use Rattle.ring.specs.Bytes.{number}
use Rattle.ring.specs.Polynomials.{bit}
use Rattle.ring.proofs.Binary.{number_lt}
use Rattle.packing.specs.Packing.{in_row}
use Rattle.packing.proofs.row.Row.byte.Goals as goal
use Rattle.packing.proofs.row.Row.byte.Goals.{After-bit}

-- one bit more, which is not lost
more : (f : ℕ → Bool) (k byte b : ℕ) → k < 8 → byte ≡ number k f → b ≡ bit (f k)
    → (byte + b * 2 ^ k % 256 ≡ number (k + 1) f) × (byte + b * 2 ^ k % 256 < 256)
unfolding number
more f k byte b low so_far is =
    let next : number (suc k) f < 2 ^ suc k = number_lt (suc k) f in
    let most : 2 ^ suc k ≤ 2 ^ 8 = pow_mono {i = suc k} {j = 8} (omega arith) in
    let here : b * 2 ^ k ≡ bit (f k) * 2 ^ k = ap (λ (x : ℕ). x * 2 ^ k) is in
    let whole : b * 2 ^ k % 256 ≡ b * 2 ^ k = mod-eq_of_lt (omega arith) in
    rw (whole, add-one k) (omega arith, omega arith)

pub loop-k-init : goal.loop-k-init
unfolding number
loop-k-init c = (omega arith, refl)

turn : (c : After-bit) →
    let given = c.args in
    let was = c.loop-k in
    let f : ℕ → Bool = λ e. bits given.self.now.to (in_row given.self.now.from given.self.now.count given.self.now.bytes.now) (given.j * 8 + e) in
    (was.byte + c.bit.result * 2 ^ was.k % 256 ≡ number (was.k + 1) f) × (was.byte + c.bit.result * 2 ^ was.k % 256 < 256)
turn c =
    let given = c.args in
    let was = c.loop-k in
    more (λ e. bits given.self.now.to (in_row given.self.now.from given.self.now.count given.self.now.bytes.now) (given.j * 8 + e)) was.k was.byte c.bit.result
    (omega arith) was.invariant.1 c.bit.ensures

pub overflow_add-byte : goal.overflow_add-byte
overflow_add-byte c = omega (arith, (turn (goal.at.overflow_add-byte c).After-bit).1)

pub loop-k-preserved : goal.loop-k-preserved
loop-k-preserved c = (omega arith, (turn (goal.at.loop-k-preserved c).After-bit).0)
