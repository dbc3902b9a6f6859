-- `writing` tests the level, then the lengths.
use Rattle.hashing.specs.Answers.{differs, first_of}
use Rattle.maps.specs.Promises.{writing_reasons}
use Rattle.maps.proofs.judge.writing.Goals as goal

pub returns-then-not-known : goal.returns-then-not-known
unfolding writing_reasons first_of
returns-then-not-known c = rw (← c.known.ensures, c.if-not-known.true)

pub returns-then-session_key-map : goal.returns-then-session_key-map
unfolding writing_reasons first_of differs
returns-then-session_key-map c = rw (← c.known.ensures, c.if-not-known.false, c.if-session_key-map.true)

pub returns : goal.returns
unfolding writing_reasons first_of differs
returns c = rw (← c.known.ensures, c.if-not-known.false, c.if-session_key-map.false)
