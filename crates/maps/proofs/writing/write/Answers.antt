-- `write` covers the front, and puts the tag of what it covered after it.
use native.Mathlib.Omega.{arith}
use Rattle.std.proofs.lemmas.List.{take_rest}
use Rattle.ring.proofs.Levels.{level_small}
use Rattle.maps.specs.Writes.{little_bytes, written}
use Rattle.maps.proofs.Judged.{writing_clear}
use Rattle.maps.proofs.writing.write.Goals as goal

pub returns : goal.returns
unfolding little_bytes written
returns c =
    rw (c.copy_from_slice.ensures.after, c.tag_of.ensures, take_rest c.cover.new.out 4, c.cover.ensures)

pub split_at_mut-covered-requires : goal.split_at_mut-covered-requires
split_at_mut-covered-requires c = omega (arith, (writing_clear c.requires).room_is)

pub cover-requires : goal.cover-requires
cover-requires c =
    let is = writing_clear c.requires in
    (level_small _ is.level_known, is.map_size, c.split_at_mut-covered.ensures.front_len)

pub tag_of-requires : goal.tag_of-requires
tag_of-requires c = (writing_clear c.requires).key_size

pub copy_from_slice-requires : goal.copy_from_slice-requires
copy_from_slice-requires c =
    omega (arith, (writing_clear c.requires).room_is, c.split_at_mut-covered.ensures.back_len)
