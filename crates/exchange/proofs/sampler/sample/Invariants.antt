-- `sample` goes down the steps: before each turn the list so far, and the steps left, make the sample; so with the count.
use mathlib.Core.Path.{◌≡◌}
use Prim.Native.Nat.{◌+◌, ◌-◌, ◌≤◌}
use lib.ListN.{length, take}
use Rattle.ring.specs.Bytes.{numbers}
use Rattle.exchange.specs.Sampler.{sample_below, sample, replaced_below, replaced}
use Rattle.exchange.proofs.sampler.sample.Given as goal

abbrev pub invariant-loop-done : goal.invariant-loop-done
invariant-loop-done l =
    (l.done ≤ length l.initial.list)
    × (length l.list ≡ length l.initial.list)
    × (sample_below l.len (numbers 4 (length l.initial.list) l.stream) (length l.initial.list - l.done) (take l.done l.list) ≡ sample l.len (length l.initial.list) (numbers 4 (length l.initial.list) l.stream))
    × (l.count + replaced_below l.len (numbers 4 (length l.initial.list) l.stream) (length l.initial.list - l.done) (take l.done l.list) ≡ replaced l.len (length l.initial.list) (numbers 4 (length l.initial.list) l.stream))
    × (l.count ≤ l.done)
