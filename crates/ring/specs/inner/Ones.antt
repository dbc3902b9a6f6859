-- What a product is told of a factor: how many ones it has, where these are few enough to be listed. Assumes nothing.
use Rattle.std.specs.Prelude.{◌≡◌, ℕ, ◌≤◌}
use Rattle.ring.specs.Polynomials.{Poly, weight}
use Rattle.ring.specs.inner.Sizes.{most_d}

abbrev pub Ones : ℕ → Poly → ℕ → Type 0
Ones r a ones = ones ≤ most_d → weight r a ≡ ones
