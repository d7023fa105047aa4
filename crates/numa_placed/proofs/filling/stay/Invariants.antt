-- The sum so far.
use Rattle.std.proofs.Common.{◌≡◌, ◌*◌, ◌≤◌, ◌^◌, slice_index}
use Rattle.numa_placed.specs.Shifts.{stay_on, sum_below}
use Rattle.numa_placed.proofs.filling.stay.Given as goal

abbrev pub invariant-loop-node : goal.invariant-loop-node
invariant-loop-node l = record {
  sum : l.total ≡ sum_below l.node
      (stay_on (slice_index l.targets) (slice_index l.counts) (slice_index l.gone));
  few : l.total ≤ l.node * 2 ^ 35;
}
