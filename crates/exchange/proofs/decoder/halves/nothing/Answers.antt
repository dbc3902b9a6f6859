-- `nothing`: no bit is set.
use mathlib.Core.Path.{◌≡◌, ap, ◌∙◌}
use mathlib.Core.Bool.{false}
use mathlib.Core.List.{List}
use Prim.Native.Nat.{ℕ}
use lib.ListN.{replicate}
use Rattle.hashing.specs.Lists.{bits}
use Rattle.ring.specs.inner.Sizes.{words}
use Rattle.ring.specs.Polynomials.{Poly}
use Rattle.ring.proofs.Packed.{bits-zeros}
use Rattle.exchange.specs.decoder.Decoder.{nothing}
use Rattle.exchange.proofs.decoder.Laws.{pair_path}
use Rattle.exchange.proofs.decoder.halves.nothing.Goals as goal

none : {x : List ℕ} → x ≡ replicate words 0 → ◌≡◌ {A = Poly} (bits 64 x) (λ k. false)
none e = ap (bits 64) e ∙ bits-zeros words

pub returns : goal.returns
unfolding nothing
returns c = pair_path (none c.filled.ensures) (none c.filled-2.ensures)
