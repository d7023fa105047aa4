-- The sum so far.
use Rattle.std.proofs.Common.{◌≡◌, length, take}
use Rattle.std.specs.Prelude.{sum}
use Rattle.numa_pools.specs.Turns.{on}
use Rattle.numa_pools.proofs.counts.are_fewer_on.Given as goal

abbrev pub invariant-loop-node : goal.invariant-loop-node
invariant-loop-node l = record {
  long : length l.xs ≡ 256;
  sum : l.total ≡ sum (take l.node (on l.nodes l.xs));
}
