-- The turns so far.
use Rattle.std.proofs.Common.{◌≡◌, length, take}
use Rattle.numa_pools.specs.Rounds.{turns_within}
use Rattle.numa_pools.proofs.counts.turns_within.Given as goal

abbrev pub invariant-loop-node : goal.invariant-loop-node
invariant-loop-node l = record {
  long : length l.room ≡ 256;
  turns : l.turns ≡ turns_within l.level (take l.node l.room);
}
