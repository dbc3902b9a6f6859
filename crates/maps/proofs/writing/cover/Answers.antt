-- `cover` writes the head at the front and the map after it.
use Rattle.maps.specs.Writes.{little_bytes, covered}
use Rattle.maps.proofs.writing.cover.Goals as goal

pub returns : goal.returns
unfolding little_bytes covered
returns c = rw (c.copy_from_slice.ensures.after, c.head.ensures, c.copy.ensures)
