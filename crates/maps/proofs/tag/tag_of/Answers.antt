-- `tag_of` is KMAC256 in 32 bytes.
use Rattle.maps.specs.Writes.{customization, tag_of}
use Rattle.maps.proofs.tag.tag_of.Goals as goal

pub returns : goal.returns
unfolding tag_of customization
returns c = c.kmac256.ensures
