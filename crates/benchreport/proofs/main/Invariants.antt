-- `main` ends: the window is full or the input has ended at each turn, which brings the count nearer to its end.
use Rattle.std.proofs.Common.{◌≡◌, ◌≤◌, length}
use Rattle.batch.specs.Promises.{Sound, to_go}
use Rattle.benchreport.proofs.main.Given as goal

abbrev pub invariant-loop-window : goal.invariant-loop-window
invariant-loop-window l = record {
  size : length l.window ≡ 65536;
  within : l.have ≤ 65536;
  sound : Sound l.count.totals;
}

abbrev pub decreases-loop-window : goal.decreases-loop-window
decreases-loop-window l = to_go l.count
