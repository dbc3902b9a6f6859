-- A row of the table as the code holds it. Assumes nothing.
use Rattle.ring.specs.Levels.{Level}
use Rattle.ring.specs.declared.level

unfoldable pub row : level.Level.Level → Level
row l =
    record {
      number = l.number;
      r = l.r;
      d = l.d;
      t = l.t;
      slope = l.slope;
      offset = l.offset;
      divisor = l.divisor;
      least = l.least;
    }
