-- The sum so far.
use Rattle.std.proofs.Common.{◌≡◌, ◌*◌, ◌≤◌, ◌^◌, slice_index}
use Rattle.numa_placed.specs.Shifts.{sum_below}
use Rattle.numa_run.proofs.listing.total.Given as goal

abbrev pub invariant-loop-node : goal.invariant-loop-node
invariant-loop-node l = record {
  sum : l.total ≡ sum_below l.node (slice_index l.pages);
  few : l.total ≤ l.node * 2 ^ 35;
}
