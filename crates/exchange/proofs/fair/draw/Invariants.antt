-- `draw` goes on from what is listed: before each turn, drawing the words that are left comes to the drawing of all.
use mathlib.Core.Path.{◌≡◌}
use Prim.Native.Nat.{◌-◌, ◌≤◌}
use lib.ListN.{length, take, drop}
use Rattle.exchange.specs.Fair.{draw_on, draw}
use Rattle.exchange.proofs.fair.Laws.{held}
use Rattle.exchange.proofs.fair.draw.Given as goal

abbrev pub invariant-loop-listed : goal.invariant-loop-listed
invariant-loop-listed l =
    (length l.list ≡ length l.initial.list)
    × (l.listed ≤ length l.list)
    × (l.listed ≤ l.used)
    × (l.used ≤ length l.words)
    × (draw_on l.r (length l.initial.list) l.mask (drop l.used l.words) (held (take l.listed l.list) l.used) ≡ draw l.r (length l.initial.list) l.mask l.words)

abbrev pub decreases-loop-listed : goal.decreases-loop-listed
decreases-loop-listed l = length l.list - l.listed
