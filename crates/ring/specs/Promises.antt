-- What the public entries of this crate promise, for all input: document 01's numbers from 1 down the column, and the value where
-- none applies. Polynomials are lists of bytes, `room` is the actual length of the output. Assumes nothing.
use Rattle.std.specs.Prelude.{◌≡◌, not, ◌||◌, List, [], ◌∷◌, ◌++◌, ℕ, length}
use Rattle.hashing.specs.Lists.{bits}
use Rattle.hashing.specs.Answers.{Reason, Outcome, differs, settle, reported}
use Rattle.hashing.specs.Answers.Outcome.{gives}
use Rattle.ring.specs.Polynomials.{mul, has_inverse, inverse_of}
use Rattle.ring.specs.Bytes.{bytes_of, pad_set}
use Rattle.ring.specs.Chain.{chain_products}
use Rattle.ring.specs.Levels.{known, level_of, poly_bytes}

-- product: two polynomials, one
unfoldable pub product_reasons : ℕ → List ℕ → List ℕ → ℕ → List Reason
product_reasons level a b room =
    let l = level_of level in
    record { applies = not (known level); number = 1 }
    ∷ record { applies = differs (length a) (poly_bytes l) || differs (length b) (poly_bytes l) || differs room (poly_bytes l); number = 2 }
    ∷ record { applies = pad_set l.r a || pad_set l.r b; number = 3 }
    ∷ []

unfoldable pub product_says : ℕ → List ℕ → List ℕ → ℕ → Outcome
product_says level a b room =
    let r = (level_of level).r in
    settle (product_reasons level a b room) (record { room = room; value = bytes_of r (mul r (bits 8 a) (bits 8 b)) } ∷ [])

abbrev pub ProductPromise : ℕ → List ℕ → List ℕ → ℕ → ℕ → List ℕ → Type 0
ProductPromise level a b room r out = gives r (out ∷ []) ≡ product_says level a b room

-- inverse: one, one
unfoldable pub inverse_reasons : ℕ → List ℕ → ℕ → List Reason
inverse_reasons level a room =
    let l = level_of level in
    record { applies = not (known level); number = 1 }
    ∷ record { applies = differs (length a) (poly_bytes l) || differs room (poly_bytes l); number = 2 }
    ∷ record { applies = pad_set l.r a; number = 3 }
    ∷ []

unfoldable pub inverse_says : ℕ → List ℕ → ℕ → Outcome
inverse_says level a room =
    let r = (level_of level).r in
    settle (inverse_reasons level a room ++ (record { applies = not (has_inverse r (bits 8 a)); number = 5 } ∷ []))
    (record { room = room; value = bytes_of r (inverse_of r (bits 8 a)) } ∷ [])

abbrev pub InversePromise : ℕ → List ℕ → ℕ → ℕ → List ℕ → Type 0
InversePromise level a room r out = gives r (out ∷ []) ≡ inverse_says level a room

-- beside it, the products of the chain: "Refusals 1 to 3 report 0, refusal 5 the full count"
unfoldable pub products_say : ℕ → List ℕ → ℕ → List ℕ
products_say level a room = reported (settle (inverse_reasons level a room) []) (chain_products (level_of level).r (bits 8 a) ∷ [])

abbrev pub ProductsPromise : ℕ → List ℕ → ℕ → ℕ → Type 0
ProductsPromise level a room products = products ∷ [] ≡ products_say level a room
