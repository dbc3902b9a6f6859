-- Parts of a list: what a buffer holds that was written in two parts, and how long a front is. Assumes nothing.
use mathlib.Core.Path.{◌≡◌, sym, ap, ap₂, ◌∙◌}
use mathlib.Core.Bool.{false}
use mathlib.Core.List.{List, [], ◌++◌, append-nil}
use Prim.Native.Nat.{ℕ, ◌-◌, ◌≤◌, ◌<◌}
use native.Mathlib.Nat.{le_of_eq}
use native.Mathlib.Omega.{arith}
use lib.ListN.{length, take, drop, replicate, drop_of_length-le, length-drop, length-take, length-replicate, get_or-replicate}
use lib.Seq.{length-take-le, take_all, take_at, ext_get_or}
use Rattle.hashing.specs.Lists.{tab}
use Rattle.hashing.proofs.Lists.{length-tab, get_or-tab}
use Rattle.ring.specs.Bytes.{number, list_of, byte_length, bytes_of}
use Rattle.ring.specs.Polynomials.{Poly}
use Rattle.ring.proofs.Layouts.{bytes_of-length}

-- the front, then all that follows it
pub two_parts : (n : ℕ) (front rest old : List ℕ) → length front ≡ n →
    let half = front ++ drop n old in
    take n half ++ (rest ++ drop (length half - n) (drop n half)) ≡ front ++ rest
two_parts n front rest old size =
    let half = front ++ drop n old in
    let none : drop (length half - n) (drop n half) ≡ [] = drop_of_length-le (drop n half) (le_of_eq (length-drop n half)) in
    ap₂ ◌++◌ (take_at front (drop n old) n size) (ap (◌++◌ rest) none ∙ append-nil rest)

pub rest_all : (n : ℕ) (xs : List ℕ) → take (length xs - n) (drop n xs) ≡ drop n xs
rest_all n xs = take_all (length xs - n) (drop n xs) (le_of_eq (length-drop n xs))

-- a list whose front holds the bytes of a polynomial is long enough, and so is its front
pub front_room : (r : ℕ) (a : Poly) (xs : List ℕ) → take (byte_length r) xs ≡ bytes_of r a → byte_length r ≤ length xs
front_room r a xs held = omega (arith, length-take (byte_length r) xs, ap length held ∙ bytes_of-length r a)

pub front_long : (n : ℕ) {m : ℕ} (xs : List ℕ) → n ≡ m → m ≤ length xs → length (take n xs) ≡ n
front_long n xs same room = length-take-le n xs (rw same room)

-- the bytes of no error
pub no_bytes : (r n : ℕ) → n ≡ byte_length r → bytes_of r (λ k. false) ≡ replicate n 0
unfolding bytes_of list_of number
no_bytes r n long =
    let none : ℕ → ℕ = λ i. 0 in
    rw long
    (ext_get_or 0 (tab (byte_length r) none) (replicate (byte_length r) 0) (length-tab (byte_length r) none ∙ sym (length-replicate (byte_length r) 0))
    (λ i below.
    let within : i < byte_length r = rw (length-tab (byte_length r) none) at below in
    get_or-tab (byte_length r) none 0 i within ∙ sym (get_or-replicate (byte_length r) i 0 0 within)))

-- a blank array's length, and its front's
pub blank_long : (n : ℕ) → length (replicate {A = ℕ} n 0) ≡ n
blank_long n = length-replicate n 0

pub blank_front : (n room : ℕ) → n ≤ room → length (take n (replicate {A = ℕ} room 0)) ≡ n
blank_front n room fits = length-take-le n (replicate {A = ℕ} room 0) (omega (arith, blank_long room))
