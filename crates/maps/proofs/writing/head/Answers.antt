-- `head` puts its numbers one after the other.
use mathlib.Core.Path.{◌∙◌}
use Rattle.maps.specs.Writes.{little_bytes, map_kind}
use Rattle.maps.proofs.Written.{four_little}
use Rattle.maps.proofs.writing.head.Goals as goal

pub returns : goal.returns
unfolding little_bytes map_kind
returns c =
    rw (
      c.copy_from_slice.ensures.after,
      c.to_le_bytes.ensures,
      c.copy_from_slice-2.ensures.after,
      c.to_le_bytes-2.ensures,
      c.kind.ensures,
      c.copy_from_slice-3.ensures.after,
      c.to_le_bytes-3.ensures ∙ four_little c.args.kart,
      c.copy_from_slice-4.ensures.after,
      c.to_le_bytes-4.ensures ∙ four_little c.args.counter,
    )
