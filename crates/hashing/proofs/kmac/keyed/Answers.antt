-- `hashing::kmac::keyed`: each bytepad begins where the blocks before it end.
use mathlib.Core.Path.{refl}
use mathlib.Core.List.{[]}
use Rattle.hashing.specs.Kmac.{bytepad, function_name}
use Rattle.hashing.proofs.kmac.Laws.{both, bytepad_whole, padded}
use Rattle.hashing.proofs.kmac.keyed.Goals as goal

pub returns : goal.returns
unfolding bytepad function_name
returns c =
    let names = both c.left.ensures (both c.string.ensures c.string-named.ensures) in
    let runs = padded [] _ refl (c.start.ensures.fresh 136) names c.zeros.ensures in (
      c.zeros-2.ensures.within,
      padded _ _ (bytepad_whole _) runs (both c.left-2.ensures c.string-keyed.ensures) c.zeros-2.ensures,
    )
